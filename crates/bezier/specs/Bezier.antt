-- Document 01, "Easing": "CubicBezier: x1, x2 clamped; t of 0 or 1 returned at once; up to 6 Newton steps from u = t, left on a derivative below 1e-6 in size; then up to 10 bisections, again from u = t; tolerance 1e-6, as the source has it."
use Rattle.std.specs.Prelude.{Bool, true, ◌||◌, cond, Float}
use Rattle.std.specs.Float.Ieee.{eq}
use Rattle.math.specs.Rounded.{zero_f, one_f}
use Rattle.math.specs.Range.{clamp01_of}
use Rattle.bezier.specs.Curve.{sample_cubic_of}
use Rattle.bezier.specs.declared.types.Solved.{Solved}
use Rattle.bezier.specs.declared.types.Found.{Found}
use Rattle.bezier.specs.Search.{solved_at, solve_of}

abbrev pub at_end : Float → Bool
at_end t = eq t zero_f || eq t one_f

-- "x1, x2 clamped": the u for t. Request 1: "t of 0 or 1 .. count as settled with no evaluations"
unfoldable pub solution_of : Float → Float → Float → Solved
solution_of t x1 x2 = cond (at_end t) (solved_at true t) (solve_of (clamp01_of x1) (clamp01_of x2) t)

-- document 01's value: "t of 0 or 1 returned at once"; else the curve's y at that u
unfoldable pub cubic_bezier : Float → Float → Float → Float → Float → Float
cubic_bezier t x1 y1 x2 y2 = cond (at_end t) t (sample_cubic_of y1 y2 (solution_of t x1 x2).u)

-- a value with no search. Request 1: "other curves, t of 0 or 1 and values found without easing count as settled with no evaluations"
abbrev pub plain_of : Float → Found
plain_of v = record { value = v; settled = true; xs = 0; derivatives = 0 }

-- a value, and the search for its u
abbrev pub found_by : Solved → Float → Found
found_by s v = record { value = v; settled = s.settled; xs = s.xs; derivatives = s.derivatives }

-- another value, by the same search
abbrev pub with_value : Float → Found → Found
with_value v f = record { value = v; settled = f.settled; xs = f.xs; derivatives = f.derivatives }

-- Request 1: "Its answer must also say if the last x evaluated met the tolerance 1e-6 and how many x and derivative evaluations were made"
abbrev pub bezier_of : Float → Float → Float → Float → Float → Found
bezier_of t x1 y1 x2 y2 = found_by (solution_of t x1 x2) (cubic_bezier t x1 y1 x2 y2)
