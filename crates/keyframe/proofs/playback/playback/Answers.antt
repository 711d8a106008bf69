-- `playback` meets its contract. Assumes nothing.
use Rattle.std.proofs.Common.{rules}
use lib.Ieee.{of_bits}
use Rattle.keyframe.proofs.playback.playback.Goals as goal

pub returns-then-base : goal.returns-then-base
unfolding of_bits
returns-then-base c = rw (c.in-None.is, c.if-base.true)

pub returns-in-Some : goal.returns-in-Some
unfolding of_bits
returns-in-Some c = search rules

pub returns-else-base : goal.returns-else-base
unfolding of_bits
returns-else-base c = rw (c.in-None.is, c.if-base.false, c.infinity.ensures)
