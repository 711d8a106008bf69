-- Document 01, "Easing", CubicBezier, and request 1: what holds of every search. Each sentence is a type; its proof has its name in small letters.
use Rattle.std.specs.Prelude.{ℕ, ◌≤◌, ◌≡◌, true, false, T, Float}
use Rattle.math.specs.Range.{clamp01_of, is_finite, Within}
use Rattle.bezier.specs.declared.types.Solved.{Solved}
use Rattle.bezier.specs.Search.{near_of}
use Rattle.bezier.specs.Bezier.{at_end, solution_of}

-- at most so many x and so many derivatives
abbrev pub AtMostEach : ℕ → ℕ → Solved → Type 0
AtMostEach x d s = (s.xs ≤ x) × (s.derivatives ≤ d)

-- "up to 6 Newton steps", "up to 10 bisections": an x for each of them, and a derivative for each Newton step
abbrev pub FewEvaluations : Type 0
FewEvaluations = (t x1 x2 : Float) → AtMostEach 16 6 (solution_of t x1 x2)

-- for a t from 0 to 1 and finite x1, x2, the u is from 0 to 1
abbrev pub FoundWithin : Type 0
FoundWithin = (t x1 x2 : Float) → Within t → T (is_finite x1) → T (is_finite x2) → Within (solution_of t x1 x2).u

-- "if the last x evaluated met the tolerance 1e-6": where it is settled, the curve's x at the u is that near to t
abbrev pub SettledNear : Type 0
SettledNear =
    (t x1 x2 : Float) → at_end t ≡ false
    → let s = solution_of t x1 x2 in
    s.settled ≡ true → near_of (clamp01_of x1) (clamp01_of x2) t s.u ≡ true
