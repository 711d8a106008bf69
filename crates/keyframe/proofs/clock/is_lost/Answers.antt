-- `is_lost` meets its contract. Assumes nothing.
use lib.Ieee.{of_bits}
use Rattle.keyframe.proofs.clock.is_lost.Goals as goal

pub returns : goal.returns
unfolding of_bits
returns c = rw c.is_lost.ensures
