-- `clock_fits` meets its contract, by what its callees ensure. Assumes nothing.
use lib.Ieee.{of_bits}
use Rattle.keyframe.specs.Limits.{clock_fits}
use Rattle.keyframe.proofs.limits.clock_fits.Goals as goal

pub returns : goal.returns
unfolding clock_fits of_bits
returns c = rw (c.mode_fits.ensures, c.is_between.ensures)
