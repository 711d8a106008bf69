-- `reset` meets its contract. Assumes nothing.
use lib.Ieee.{of_bits}
use Rattle.math.proofs.Choice.{fails, passes}
use Rattle.keyframe.specs.Stepping.{reset_of}
use mathlib.Core.Path.{ap}
use mathlib.Core.Bool.{not}
use Rattle.keyframe.proofs.types.Track.reset.Goals as goal

pub returns-then-not-is_within_limits : goal.returns-then-not-is_within_limits
unfolding reset_of of_bits
returns-then-not-is_within_limits c = rw (fails _ _ c.is_within_limits.ensures (ap not c.if-not-is_within_limits.true), c.new.ensures)

pub returns : goal.returns
unfolding reset_of of_bits
returns c = rw (passes _ _ c.is_within_limits.ensures (ap not c.if-not-is_within_limits.false), c.moved.ensures)
