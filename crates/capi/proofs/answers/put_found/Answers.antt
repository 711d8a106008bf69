-- `put_found` meets its contract, by what its callees ensure. Assumes nothing.
use Rattle.capi.specs.Answers.{found_in}
use Rattle.capi.proofs.answers.put_found.Goals as goal

pub returns-in-Ok : goal.returns-in-Ok
unfolding found_in
returns-in-Ok c = simp (c.in-Ok.is, c.bits.ensures, c.flag_word.ensures)

pub returns-in-Err : goal.returns-in-Err
unfolding found_in
returns-in-Err c = simp (c.in-Err.is, c.number.ensures)
