-- `put_snapshot` meets its contract, by what its callees ensure. Assumes nothing.
use Rattle.capi.specs.Tweens.{snapshot_in}
use Rattle.capi.proofs.answers.put_snapshot.Goals as goal

pub returns-in-Ok : goal.returns-in-Ok
unfolding snapshot_in
returns-in-Ok c = simp (c.in-Ok.is, c.flag_word.ensures, c.state_word.ensures, c.bits.ensures, c.bits-in-Ok.ensures)

pub returns-in-Err : goal.returns-in-Err
unfolding snapshot_in
returns-in-Err c = simp (c.in-Err.is, c.number.ensures)
