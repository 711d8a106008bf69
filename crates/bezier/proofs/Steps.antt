-- What the definition of the search says, one step at a time. Assumes nothing.
use Prim.Native.Nat.{ℕ, suc, ◌+◌, ◌-◌, ◌<◌}
use mathlib.Core.Path.{◌≡◌, refl, ap, ◌∙◌}
use mathlib.Core.Bool.{Bool, true, false}
use native.Mathlib.Omega.{arith}
use lib.Ieee.{Float, lt}
use Rattle.math.specs.Rounded.{◌⊖◌, ◌⊘◌}
use Rattle.math.specs.Range.{clamp01_of, size_of}
use Rattle.bezier.specs.Curve.{sample_cubic_of, sample_cubic_derivative_of}
use Rattle.bezier.specs.Search.{solved_at, after, tiny_f, cut_of, miss_of, near_of, turn_of, bisect_of, bisection_of, newton_of}
use Rattle.bezier.specs.declared.types.Turn.{Turn}
use Rattle.bezier.specs.declared.types.Turn.TheVariants.{Near, Flat, Next}
use Rattle.bezier.specs.declared.types.Span.{Span}
use Rattle.bezier.specs.declared.types.Solved.{Solved}

-- an answer whose counts are those of f
pub counts : (f : Solved) (x d : ℕ) {g : Solved} → f ≡ g → x ≡ f.xs → d ≡ f.derivatives → record { u = f.u; settled = f.settled; xs = x; derivatives = d } ≡ g
counts f x d e p q = rw (p, q) e

pub after_both : (x d y e : ℕ) (f : Solved) → after (x + y) (d + e) f ≡ after x d (after y e f)
after_both x d y e f = counts (after x d (after y e f)) (x + y + f.xs) (d + e + f.derivatives) refl (omega arith) (omega arith)

-- a Newton step, by its tests
module _ (x1 x2 t u : Float) where
  pub turn_near : near_of x1 x2 t u ≡ true → Near ≡ turn_of x1 x2 t u
  unfolding turn_of
  turn_near h = rw h

  pub turn-flat : near_of x1 x2 t u ≡ false → lt (size_of (sample_cubic_derivative_of x1 x2 u)) tiny_f ≡ true → Flat ≡ turn_of x1 x2 t u
  unfolding turn_of
  turn-flat h k = rw (h, k)

  pub turn-next : (v : Float) → near_of x1 x2 t u ≡ false → lt (size_of (sample_cubic_derivative_of x1 x2 u)) tiny_f ≡ false → v ≡ clamp01_of (u ⊖ miss_of x1 x2 t u ⊘ sample_cubic_derivative_of x1 x2 u)
      → Next v ≡ turn_of x1 x2 t u
  unfolding turn_of
  turn-next v h k e = rw (h, k, e)

-- the loops, where k steps of n are done
left : (n k : ℕ) → k < n → n - k ≡ suc (n - (k + 1))
left n k h = omega arith

module _ (x1 x2 t : Float) (n k : ℕ) where
  pub newton-near : (u : Float) → k < n → turn_of x1 x2 t u ≡ Near → newton_of x1 x2 t (n - k) (turn_of x1 x2 t u) u ≡ after 1 0 (solved_at true u)
  unfolding newton_of
  newton-near u h e = rw (left n k h, e)

  flat : (u : Float) → k < n → turn_of x1 x2 t u ≡ Flat → after 1 1 (bisection_of x1 x2 t) ≡ newton_of x1 x2 t (n - k) (turn_of x1 x2 t u) u
  unfolding newton_of
  flat u h e = rw (left n k h, e)

  pub newton-flat : (u : Float) (made : ℕ) → made ≡ k + 1 → k < n → turn_of x1 x2 t u ≡ Flat → after made made (bisection_of x1 x2 t) ≡ after k k (newton_of x1 x2 t (n - k) (turn_of x1 x2 t u) u)
  newton-flat u made m h e = rw m (after_both k k 1 1 (bisection_of x1 x2 t) ∙ ap (after k k) (flat u h e))

  pub newton-next : (u v : Float) → k < n → turn_of x1 x2 t u ≡ Next v → newton_of x1 x2 t (n - k) (turn_of x1 x2 t u) u ≡ after 1 1 (newton_of x1 x2 t (n - (k + 1)) (turn_of x1 x2 t v) v)
  unfolding newton_of
  newton-next u v h e = rw (left n k h, e)

  spent : (u : Float) (turn : Turn) → n - k ≡ 0 → bisection_of x1 x2 t ≡ newton_of x1 x2 t (n - k) turn u
  unfolding newton_of
  spent u turn e = rw e

  pub newton-spent : (u : Float) (turn : Turn) (made : ℕ) → made ≡ k → n ≡ k → after made made (bisection_of x1 x2 t) ≡ after k k (newton_of x1 x2 t (n - k) turn u)
  newton-spent u turn made m e = rw m (ap (after k k) (spent u turn (omega (arith, e))))

  pub bisect-near : (s : Span) → k < n → near_of x1 x2 t s.u ≡ true → bisect_of x1 x2 t (n - k) (near_of x1 x2 t s.u) s ≡ after 1 0 (solved_at true s.u)
  unfolding bisect_of
  bisect-near s h e = rw (left n k h, e)

  pub bisect-next : (s r : Span) → k < n → near_of x1 x2 t s.u ≡ false → r ≡ cut_of s (sample_cubic_of x1 x2 s.u) t
      → bisect_of x1 x2 t (n - k) (near_of x1 x2 t s.u) s ≡ after 1 0 (bisect_of x1 x2 t (n - (k + 1)) (near_of x1 x2 t r.u) r)
  unfolding bisect_of
  bisect-next s r h e q = rw (left n k h, e, q)

  pub bisect-spent : (s : Span) (near : Bool) → n - k ≡ 0 → bisect_of x1 x2 t (n - k) near s ≡ solved_at false s.u
  unfolding bisect_of
  bisect-spent s near e = rw e
