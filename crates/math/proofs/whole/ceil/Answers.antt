-- `ceil` meets its contract. That a float is whole from 2 ^ 24 on rests on x being a value of binary32. Assumes nothing.
use Rattle.std.proofs.Common.{◌≡◌, Bool, true, false, pos, sym, ap, ◌∙◌, subst, arith}
use denote.Floats.{passes}
use lib.Ieee.{Float, binary32, neg, of_int, lt}
use Rattle.math.proofs.Ceiling.{Above, above_zero, below-zero, stays}
use Rattle.math.proofs.whole.ceil.Goals as goal
use Rattle.math.proofs.whole.ceil.Goals.{After-nearest_u32_to_f32-below, After-whole_part-w}

-- what is known once the whole part is there
above : (c : After-whole_part-w) → Above c.args.x c.whole_part-w.result
above c = subst (Above c.args.x) (sym c.whole_part-w.ensures) (above_zero c.args.x c.if-x.true)

-- the test on the rounded whole part, as one on the whole part
tested : (c : After-nearest_u32_to_f32-below) (b : Bool) → lt c.nearest_u32_to_f32-below.result c.args.x ≡ b
    → lt (of_int binary32 (pos c.whole_part-w.result)) c.args.x ≡ b
tested c b t = ap (λ (f : Float). lt f c.args.x) (sym c.nearest_u32_to_f32-below.ensures) ∙ t

pub overflow_add-w : goal.overflow_add-w
overflow_add-w c = omega (arith, (above (goal.at.overflow_add-w c).After-whole_part-w).0)

pub returns-then-below-x : goal.returns-then-below-x
returns-then-below-x c = c.nearest_u32_to_f32.ensures ∙ (above (goal.at.returns-then-below-x c).After-whole_part-w).1 (tested (goal.at.returns-then-below-x c).After-nearest_u32_to_f32-below true c.if-below-x.true)

pub returns-then-x : goal.returns-then-x
returns-then-x c = c.nearest_u32_to_f32-below.ensures ∙ (above (goal.at.returns-then-x c).After-whole_part-w).2 (tested (goal.at.returns-then-x c).After-nearest_u32_to_f32-below false c.if-below-x.false)

pub returns-then-x-2 : goal.returns-then-x-2
returns-then-x-2 c = ap neg (c.nearest_u32_to_f32-then-x-2.ensures ∙ ap (λ n. of_int binary32 (pos n)) c.whole_part.ensures) ∙ below-zero c.args.x c.if-x-2.true

pub returns : goal.returns
returns c = stays c.args.x (passes _ c.well_formed.0.1) c.if-x.false c.if-x-2.false
