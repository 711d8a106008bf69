-- `update_in` meets its contract, by what its callees ensure. Assumes nothing.
use Rattle.capi.specs.Tweens.{updated_in, lax_tween_update}
use Rattle.capi.proofs.tweens.update_in.Goals as goal

pub returns-in-Ok : goal.returns-in-Ok
unfolding lax_tween_update updated_in
returns-in-Ok c = simp (← c.tween_in.ensures, ← c.tween_of.ensures, c.in-Some.is, ← c.update.ensures, c.in-Ok.is, c.flag_word.ensures, c.store_tween.ensures)

pub returns-in-Err : goal.returns-in-Err
unfolding lax_tween_update updated_in
returns-in-Err c = simp (← c.tween_in.ensures, ← c.tween_of.ensures, c.in-Some.is, ← c.update.ensures, c.in-Err.is, c.number.ensures)

pub returns-in-None : goal.returns-in-None
unfolding lax_tween_update updated_in
returns-in-None c = simp (← c.tween_in.ensures, ← c.tween_of.ensures, c.in-None.is)
