-- `infinity` meets its contract. Assumes nothing.
use Rattle.std.proofs.Common.{refl}
use lib.Ieee.{of_bits}
use Rattle.math.proofs.class.infinity.Goals as goal

pub returns : goal.returns
unfolding of_bits
returns c = refl
