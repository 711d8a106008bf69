-- How many evaluations the search makes: of x at most one for each Newton step and each bisection, of the derivative at most one for each Newton step. Assumes nothing.
use Prim.Native.Nat.{ℕ, zero, suc, ◌+◌, zero-le}
use mathlib.Core.Bool.{Bool, true, false, cond}
use native.Mathlib.Omega.{arith}
use lib.Ieee.{Float}
use Rattle.math.specs.Range.{clamp01_of}
use Rattle.bezier.specs.Curve.{sample_cubic_of}
use Rattle.bezier.specs.Search.{solved_at, cut_of, near_of, turn_of, bisect_of, bisection_of, newton_of, solve_of}
use Rattle.bezier.specs.Bezier.{at_end, solution_of}
use Rattle.bezier.specs.Promises.{AtMostEach, FewEvaluations}
use Rattle.bezier.specs.declared.types.Turn.{Turn}
use Rattle.bezier.specs.declared.types.Turn.TheVariants.{Near, Flat, Next}
use Rattle.bezier.specs.declared.types.Span.{Span}

module _ (x1 x2 t : Float) where
  bisect-few : (n : ℕ) (near : Bool) (s : Span) → AtMostEach n 0 (bisect_of x1 x2 t n near s)
  unfolding bisect_of
  bisect-few zero near s = (zero-le, zero-le)
  bisect-few (suc n) true s = (omega arith, zero-le)
  bisect-few (suc n) false s =
      let r = cut_of s (sample_cubic_of x1 x2 s.u) t in
      let h = bisect-few n (near_of x1 x2 t r.u) r in
      (omega (arith, h.0), omega (arith, h.1))

  bisection-few : AtMostEach 10 0 (bisection_of x1 x2 t)
  bisection-few = bisect-few 10 _ _

  newton-few : (n : ℕ) (turn : Turn) (u : Float) → AtMostEach (n + 10) n (newton_of x1 x2 t n turn u)
  unfolding newton_of
  newton-few zero turn u = bisection-few
  newton-few (suc n) Near u = (omega arith, zero-le)
  newton-few (suc n) Flat u = (omega (arith, bisection-few.0), omega (arith, bisection-few.1))
  newton-few (suc n) (Next v) u =
      let h = newton-few n (turn_of x1 x2 t v) v in
      (omega (arith, h.0), omega (arith, h.1))

pub few-evaluations : FewEvaluations
unfolding solution_of
few-evaluations t x1 x2 = go (at_end t)
  where
    go : (b : Bool) → AtMostEach 16 6 (cond b (solved_at true t) (solve_of (clamp01_of x1) (clamp01_of x2) t))
    go true = (zero-le, zero-le)
    go false = newton-few (clamp01_of x1) (clamp01_of x2) t 6 (turn_of (clamp01_of x1) (clamp01_of x2) t t) t
