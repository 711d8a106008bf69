-- `active_at` meets its contract. Assumes nothing.
use lib.Ieee.{of_bits}
use Rattle.keyframe.proofs.clock.active_at.Goals as goal

pub returns-then-base : goal.returns-then-base
unfolding of_bits
returns-then-base c = rw c.if-base.true

pub returns : goal.returns
unfolding of_bits
returns c = rw c.if-base.false c.phase.ensures
