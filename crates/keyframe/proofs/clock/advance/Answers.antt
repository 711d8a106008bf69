-- `advance` meets its contract, by where playback ends. Assumes nothing.
use lib.Ieee.{of_bits}
use Rattle.keyframe.specs.Clock.{tick_to}
use Rattle.keyframe.proofs.clock.advance.Goals as goal

pub returns-then-total-sum : goal.returns-then-total-sum
unfolding tick_to of_bits
returns-then-total-sum c = rw (← c.end_of.ensures, c.in-Some.is, c.if-total-sum.true, ← c.whole_part-count.ensures, ← c.final_count.ensures) c.ran.ensures

pub returns-then-sum : goal.returns-then-sum
unfolding tick_to of_bits
returns-then-sum c = rw (← c.end_of.ensures, c.in-None.is, c.if-sum.true)

pub returns-else-total-sum : goal.returns-else-total-sum
unfolding tick_to of_bits
returns-else-total-sum c = rw (← c.end_of.ensures, c.in-Some.is, c.if-total-sum.false, ← c.whole_part-count.ensures) c.ran-in-Some.ensures

pub returns-else-sum : goal.returns-else-sum
unfolding tick_to of_bits
returns-else-sum c = rw (← c.end_of.ensures, c.in-None.is, c.if-sum.false, ← c.whole_part-count.ensures) c.ran-in-None.ensures
