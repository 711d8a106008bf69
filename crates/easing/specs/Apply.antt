-- Document 01, "Easing" and "Refusal numbers": what an easing answers at a progress, and whether two easings are equal.
use Rattle.std.specs.Prelude.{Bool, true, ◌&&◌, cond, eqb, Float, Err, Ok, Result, Option, Some, None}
use Rattle.std.specs.Float.Ieee.{is_nan}
use Rattle.math.specs.Range.{clamp01_of}
use Rattle.bezier.specs.declared.types.Solved.{Solved}
use Rattle.bezier.specs.declared.types.Found.{Found}
use Rattle.bezier.specs.Search.{solved_at}
use Rattle.bezier.specs.Bezier.{solution_of, found_by}
use Rattle.refusal.specs.declared.Refusal.TheVariants.{ProgressIsNan, EasingNotSupplied, EasingParameter}
use Rattle.refusal.specs.Refusing.{unless, when}
use Rattle.easing.specs.declared.kinds.Easing.{Easing}
use Rattle.easing.specs.Kinds.{number_of, curve_of, supplied_of}
use Rattle.easing.specs.Params.{params_of, within_of, equal_of}
use Rattle.refusal.specs.declared.Refusal.{Refusal}

-- 3 where a parameter is not within its limits
abbrev pub limited_of : Bool → Found → Result Found Refusal
limited_of fine f = unless fine (Err EasingParameter) (Ok f)

-- Request 1: the search behind the curve's value at t, which is CubicBezier's, number 31, with a and c for x1 and x2; "other curves .. count as settled with no evaluations"
unfoldable pub search_of : Easing → Float → Solved
search_of e t = cond (eqb (number_of e) 31) (solution_of t (params_of e).a (params_of e).c) (solved_at true t)

-- the curve at t, where there is one, with the search behind it; `fine` says whether the parameters are within their limits
abbrev pub eased_at : Option (Float → Float) → (Float → Solved) → Bool → Float → Result Found Refusal
eased_at None search fine t = Err EasingNotSupplied
eased_at (Some curve) search fine t = limited_of fine (found_by (search t) (curve t))

-- "t is clamped to 0..1, infinities too; NaN is refused with number 1". The order of the refusals is 1, 2, 3
unfoldable pub apply_of : Easing → Float → Result Found Refusal
apply_of e t =
    when (is_nan t) (Err ProgressIsNan)
    (eased_at (curve_of e) (search_of e) (within_of (params_of e)) (clamp01_of t))

-- "Easing inside a record must be supplied and within limits"
unfoldable pub fits_record_of : Easing → Bool
fits_record_of e = supplied_of e && within_of (params_of e)

-- the same kind with equal parameters
abbrev pub same_of : Easing → Easing → Bool
same_of x y = eqb (number_of x) (number_of y) && equal_of (params_of x) (params_of y)

-- "`PartialEq` without `Custom` (2 and 3 apply to either side)"
unfoldable pub eq_of : Easing → Easing → Result Bool Refusal
eq_of x y =
    unless (supplied_of x && supplied_of y) (Err EasingNotSupplied)
    (unless (within_of (params_of x) && within_of (params_of y)) (Err EasingParameter)
    (Ok (same_of x y)))
