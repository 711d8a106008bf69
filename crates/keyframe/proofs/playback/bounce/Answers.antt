-- `bounce` meets its contract. Assumes nothing.
use lib.Ieee.{of_bits}
use Rattle.keyframe.proofs.playback.bounce.Goals as goal

pub returns-then-cycle-base : goal.returns-then-cycle-base
unfolding of_bits
returns-then-cycle-base c = simp c.if-cycle-base.true

pub returns : goal.returns
unfolding of_bits
returns c = simp c.if-cycle-base.false
