-- `max_zero` meets its contract: an f32 that is at least the least one above 0 is above 0. Assumes nothing.
use Rattle.std.proofs.Common.{◌≡◌, Bool, true, false, sym, ap, ◌∙◌}
use denote.Floats.{passes}
use lib.Ieee.{Float, lt, le}
use Rattle.math.specs.Rounded.{zero_f}
use Rattle.math.proofs.Least.{from-least}
use Rattle.math.proofs.range.max_zero.Goals as goal
use Rattle.math.proofs.range.max_zero.Goals.{After-of_bits}

above : (c : After-of_bits) (b : Bool) → le c.of_bits.result c.args.x ≡ b → lt zero_f c.args.x ≡ b
above c b t = sym (from-least c.args.x (passes _ c.well_formed.0.1)) ∙ ap (λ (f : Float). le f c.args.x) (sym c.of_bits.ensures) ∙ t

pub returns-then-of_bits-x : goal.returns-then-of_bits-x
returns-then-of_bits-x c = simp (above (goal.at.returns-then-of_bits-x c).After-of_bits true c.if-of_bits-x.true)

pub returns-else-of_bits-x : goal.returns-else-of_bits-x
returns-else-of_bits-x c = simp (above (goal.at.returns-else-of_bits-x c).After-of_bits false c.if-of_bits-x.false)
