-- `stored` meets its contract. Assumes nothing.
use lib.Ieee.{of_bits}
use Rattle.keyframe.proofs.pushes.stored.Goals as goal

pub returns-then-k : goal.returns-then-k
unfolding of_bits
returns-then-k c = simp c.if-k.true

pub returns-else-k : goal.returns-else-k
unfolding of_bits
returns-else-k c = simp c.if-k.false
