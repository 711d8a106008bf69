-- `tick` meets its contract, refusal by refusal. Assumes nothing.
use Rattle.std.proofs.Common.{sym, ◌∙◌}
use lib.Ieee.{of_bits}
use Rattle.keyframe.specs.Clock.{tick_of}
use Rattle.keyframe.proofs.clock.tick.Goals as goal

pub returns-then-dt : goal.returns-then-dt
unfolding tick_of of_bits
returns-then-dt c = rw c.if-dt.true

pub returns-then-frames-clock : goal.returns-then-frames-clock
unfolding tick_of of_bits
returns-then-frames-clock c = rw (c.if-dt.false, c.if-frames-clock.true)

pub returns-then-is_lost : goal.returns-then-is_lost
unfolding tick_of of_bits
returns-then-is_lost c = rw (c.if-dt.false, c.if-frames-clock.false, ← c.max_zero-step.ensures, sym c.is_lost.ensures ∙ c.if-is_lost.true)

pub returns : goal.returns
unfolding tick_of of_bits
returns c = rw (c.if-dt.false, c.if-frames-clock.false, ← c.max_zero-step.ensures, sym c.is_lost.ensures ∙ c.if-is_lost.false) c.advance.ensures
