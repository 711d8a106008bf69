-- `put` meets its contract, by what its callees ensure. Assumes nothing.
use Rattle.capi.specs.Answers.{given_in}
use Rattle.capi.proofs.answers.put.Goals as goal

pub returns-in-Ok : goal.returns-in-Ok
unfolding given_in
returns-in-Ok g c = simp c.in-Ok.is

pub returns-in-Err : goal.returns-in-Err
unfolding given_in
returns-in-Err g c = simp (c.in-Err.is, c.number.ensures)
