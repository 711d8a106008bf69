-- `none_filled` meets its contract, by what its callee ensures. Assumes nothing.
use Rattle.keyframe.proofs.batch.none_filled.Goals as goal

pub returns : goal.returns
returns c = rw c.number.ensures
