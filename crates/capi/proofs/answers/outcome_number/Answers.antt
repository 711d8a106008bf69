-- `outcome_number` meets its contract, by what its callees ensure. Assumes nothing.
use Rattle.capi.proofs.answers.outcome_number.Goals as goal

pub returns-in-Ok : goal.returns-in-Ok
returns-in-Ok c = simp c.in-Ok.is

pub returns-in-Err : goal.returns-in-Err
returns-in-Err c = simp (c.in-Err.is, c.number.ensures)
