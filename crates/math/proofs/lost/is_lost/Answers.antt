-- `is_lost` meets its contract. Assumes nothing.
use lib.Ieee.{of_bits}
use Rattle.math.proofs.lost.is_lost.Goals as goal

pub returns : goal.returns
unfolding of_bits
returns c = rw c.is_above.ensures
