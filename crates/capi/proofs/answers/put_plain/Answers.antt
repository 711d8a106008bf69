-- `put_plain` meets its contract, by what its callees ensure. Assumes nothing.
use Rattle.capi.proofs.answers.put_plain.Goals as goal

pub returns : goal.returns
returns c = simp c.bits.ensures
