-- The curve of an easing by its number and parameters.
use Rattle.std.specs.Prelude.{ℕ, Bool, ◌&&◌, ◌||◌, cond, eqb, Float, None, Some, Option}
use Rattle.bezier.specs.Bezier.{bezier_of}
use Rattle.easing.specs.Kinds.{curve_of}
use Rattle.easing.specs.Params.{params, no_params, of_number, within_of}
use Rattle.words.specs.Sampling.{plain_kind}
use Rattle.bezier.specs.declared.types.Found.{Found}

abbrev pub drawn_by : Option (Float → Float) → Float → Option Float
drawn_by None u = None
drawn_by (Some curve) u = Some (curve u)

-- the curve of a plain kind at u
unfoldable pub draw_of : ℕ → Float → Option Float
draw_of kind u = cond (plain_kind kind) (drawn_by (curve_of (of_number kind no_params)) u) None

-- a plain kind, or CubicBezier, number 31, within its limits
unfoldable pub holds_of : ℕ → Float → Float → Float → Float → Bool
holds_of kind x1 y1 x2 y2 = plain_kind kind || eqb kind 31 && within_of (params x1 y1 x2 y2 0)

-- CubicBezier within its limits, at u
unfoldable pub searched_of : ℕ → Float → Float → Float → Float → Float → Option Found
searched_of kind x1 y1 x2 y2 u =
    cond (eqb kind 31 && within_of (params x1 y1 x2 y2 0)) (Some (bezier_of u x1 y1 x2 y2)) None
