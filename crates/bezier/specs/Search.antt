-- Document 01, "Easing", CubicBezier: the search for the u at which the curve with the control points x1 and x2 is at t.
use Rattle.std.specs.Prelude.{ℕ, zero, suc, ◌+◌, Bool, true, false, cond, Float}
use Rattle.std.specs.Float.Ieee.{lt}
use Rattle.math.specs.Rounded.{◌⊕◌, ◌⊖◌, ◌⊗◌, ◌⊘◌, f32, zero_f, half_f, one_f}
use Rattle.math.specs.Range.{clamp01_of, size_of}
use Rattle.bezier.specs.Curve.{sample_cubic_of, sample_cubic_derivative_of}
use Rattle.bezier.specs.declared.types.Turn.{Turn}
use Rattle.bezier.specs.declared.types.Turn.TheVariants.{Near, Flat, Next}
use Rattle.bezier.specs.declared.types.Span.{Span}
use Rattle.bezier.specs.declared.types.Solved.{Solved}

-- u, settled or not, with no evaluation
abbrev pub solved_at : Bool → Float → Solved
solved_at b u = record { u = u; settled = b; xs = 0; derivatives = 0 }

-- solved after so many x and so many derivatives more
abbrev pub after : ℕ → ℕ → Solved → Solved
after x d s = record { u = s.u; settled = s.settled; xs = x + s.xs; derivatives = d + s.derivatives }

-- 1e-6
abbrev pub tiny_f : Float
tiny_f = f32 0x3586_37bd

-- the source's next u in a bisection
abbrev pub middle_of : Float → Float → Span
middle_of low high = record { low = low; high = high; u = (low ⊕ high) ⊗ half_f }

-- a bisection of s: the upper part where the curve's x at its u is below t, and else the lower
abbrev pub cut_of : Span → Float → Float → Span
cut_of s x t = cond (lt x t) (middle_of s.u s.high) (middle_of s.low s.u)

module _ (x1 x2 t : Float) where
  -- how far the curve's x at u is from t
  abbrev pub miss_of : Float → Float
  miss_of u = sample_cubic_of x1 x2 u ⊖ t

  -- "tolerance 1e-6"
  abbrev pub near_of : Float → Bool
  near_of u = lt (size_of (miss_of u)) tiny_f

  -- a Newton step from u, "left on a derivative below 1e-6 in size"
  unfoldable pub turn_of : Float → Turn
  turn_of u =
      let derivative = sample_cubic_derivative_of x1 x2 u in
      cond (near_of u) Near (cond (lt (size_of derivative) tiny_f) Flat (Next (clamp01_of (u ⊖ miss_of u ⊘ derivative))))

  -- up to so many bisections of s, where `near` says whether x is near at its u; after the last no x is evaluated
  unfoldable pub bisect_of : ℕ → Bool → Span → Solved
  bisect_of zero near s = solved_at false s.u
  bisect_of (suc n) true s = after 1 0 (solved_at true s.u)
  bisect_of (suc n) false s = let r = cut_of s (sample_cubic_of x1 x2 s.u) t in after 1 0 (bisect_of n (near_of r.u) r)

  -- "up to 10 bisections", the first at u
  abbrev pub bisect_from : Float → Solved
  bisect_from u = bisect_of 10 (near_of u) (record { low = zero_f; high = one_f; u = u })

  -- "then .., again from u = t"
  abbrev pub bisection_of : Solved
  bisection_of = bisect_from t

  -- up to so many Newton steps, where `turn` is the step from u; after the last the step from its u is not made
  unfoldable pub newton_of : ℕ → Turn → Float → Solved
  newton_of zero turn u = bisection_of
  newton_of (suc n) Near u = after 1 0 (solved_at true u)
  newton_of (suc n) Flat u = after 1 1 bisection_of
  newton_of (suc n) (Next v) u = after 1 1 (newton_of n (turn_of v) v)

  -- "up to 6 Newton steps from u = t"
  abbrev pub solve_of : Solved
  solve_of = newton_of 6 (turn_of t) t
