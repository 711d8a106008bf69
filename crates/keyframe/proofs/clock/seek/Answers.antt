-- `seek` meets its contract, by what its callees ensure. Assumes nothing.
use Rattle.std.proofs.Common.{◌≡◌, ◌∙◌, refl, Some}
use Rattle.std.specs.Prelude.{None, Option}
use Rattle.std.specs.Option.{unwrap_or, is_some}
use lib.Ieee.{Float, of_bits}
use Rattle.keyframe.specs.Stepping.{has_end, span_in}
use Rattle.keyframe.specs.Clock.{seek_of}
use Rattle.keyframe.proofs.clock.seek.Goals as goal

spans : (end : Option Float) (base : Float) → unwrap_or end base ≡ span_in end base
spans (Some total) base = refl
spans None base = refl

ends : (end : Option Float) → is_some end ≡ has_end end
ends (Some total) = refl
ends None = refl

pub returns-then-span : goal.returns-then-span
unfolding seek_of of_bits
returns-then-span c = rw (← c.end_of-end.ensures, ← (c.unwrap_or-span.ensures ∙ spans c.end_of-end.result c.args.base), c.if-span.true) c.new.ensures

pub returns : goal.returns
unfolding seek_of of_bits
returns c = rw (← c.end_of-end.ensures, ← (c.unwrap_or-span.ensures ∙ spans c.end_of-end.result c.args.base), c.if-span.false) (c.new-2.ensures ∙ rw (c.is_some.ensures ∙ ends c.end_of-end.result, c.whole_part-count.ensures, c.span_of.ensures))
