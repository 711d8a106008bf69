-- `put_tween` meets its contract, by what its callees ensure. Assumes nothing.
use Rattle.capi.specs.Tweens.{changed_in}
use Rattle.capi.proofs.answers.put_tween.Goals as goal

pub returns-in-Ok : goal.returns-in-Ok
unfolding changed_in
returns-in-Ok c = simp (c.in-Ok.is, c.store_tween.ensures)

pub returns-in-Err : goal.returns-in-Err
unfolding changed_in
returns-in-Err c = simp (c.in-Err.is, c.number.ensures)
