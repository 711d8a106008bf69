-- The u that the search tries and finds is from 0 to 1, for a t from 0 to 1 and finite control points. Newton's next u is a clamp of what is no NaN, since it divides by no zero. Assumes nothing.
use Prim.Native.Nat.{ℕ, zero, suc, ◌*◌}
use mathlib.Core.Path.{◌≡◌, refl}
use mathlib.Core.Bool.{Bool, true, false, cond}
use native.Mathlib.Nat.{mul-pos, zero-lt-suc}
use native.Mathlib.Omega.{arith}
use lib.Dec.{T, lit≤}
use lib.Ieee.{Float, nan, inf, fin, binary32, unlike, up, down, mul, lt, of_bits}
use lib.Ieee.Fits.{down_pos}
use Rattle.math.specs.Rounded.{◌⊕◌, ◌⊖◌, ◌⊗◌, ◌⊘◌, zero_f, half_f}
use Rattle.math.specs.Range.{clamp01_of, size_of, is_finite, Within, AtMost}
use Rattle.math.proofs.Bounded.{plus, less, zero-within, half-within, one-within}
use Rattle.math.proofs.Numbers.{finite_number, sub_number, div-number, not-zero}
use Rattle.math.proofs.Upward.{add-up, mul-up}
use Rattle.math.proofs.Sizes.{at-most-finite, round-at-most}
use Rattle.math.proofs.Ranges.{clamped, one-held, within-at-most, within-finite, at-most-within}
use Rattle.bezier.specs.Curve.{sample_cubic_of, sample_cubic_derivative_of}
use Rattle.bezier.specs.Search.{solved_at, tiny_f, middle_of, cut_of, near_of, turn_of, bisect_of, bisection_of, newton_of, solve_of}
use Rattle.bezier.specs.Bezier.{at_end, solution_of}
use Rattle.bezier.specs.Promises.{FoundWithin}
use Rattle.bezier.specs.declared.types.Turn.{Turn}
use Rattle.bezier.specs.declared.types.Turn.TheVariants.{Near, Flat, Next}
use Rattle.bezier.specs.declared.types.Span.{Span}
use Rattle.bezier.proofs.Bounds.{sample-at-most, derivative-at-most}

-- the middle of two floats from 0 to 1
halved : (x : Float) → AtMost 2 x → AtMost 1 (x ⊗ half_f)
unfolding mul of_bits
halved nan h = absurd h
halved (inf s) h = absurd h
halved (fin s m e) h = round-at-most binary32 1 one-held (unlike s false) (m * up e * 1) (down e * 2) (mul-pos (down_pos e) (zero-lt-suc 1)) (omega arith)

middle-within : (x y : Float) → Within x → Within y → Within ((x ⊕ y) ⊗ half_f)
middle-within x y v w =
    let s : AtMost 2 (x ⊕ y) = plus 2 (lit≤ tt) 1 1 x y (lit≤ tt) (within-at-most x v) (within-at-most y w) in
    at-most-within ((x ⊕ y) ⊗ half_f) (mul-up binary32 (x ⊕ y) half_f (at-most-finite 2 (x ⊕ y) s) (within-finite half_f half-within) (add-up binary32 x y v.0 w.0) half-within.0) (halved (x ⊕ y) s)

-- the search, step by step
abbrev SpanWithin : Span → Type 0
SpanWithin s = Within s.low × Within s.high × Within s.u

abbrev NextWithin : Turn → Type 0
NextWithin Near = Unit {0}
NextWithin Flat = Unit {0}
NextWithin (Next v) = Within v

cut-within : (s : Span) (x t : Float) → SpanWithin s → SpanWithin (cut_of s x t)
cut-within s x t w = go (lt x t)
  where
    go : (b : Bool) → SpanWithin (cond b (middle_of s.u s.high) (middle_of s.low s.u))
    go true = (w.2, w.1, middle-within s.u s.high w.2 w.1)
    go false = (w.0, w.2, middle-within s.low s.u w.0 w.2)

limit-above-zero : T (lt zero_f tiny_f)
unfolding lt of_bits
limit-above-zero = tt

module _ (x1 x2 t : Float) (w1 : Within x1) (w2 : Within x2) (wt : Within t) where
  bisect-within : (n : ℕ) (near : Bool) (s : Span) → SpanWithin s → Within (bisect_of x1 x2 t n near s).u
  unfolding bisect_of
  bisect-within zero near s w = w.2
  bisect-within (suc n) true s w = w.2
  bisect-within (suc n) false s w =
      let r = cut_of s (sample_cubic_of x1 x2 s.u) t in
      bisect-within n (near_of x1 x2 t r.u) r (cut-within s (sample_cubic_of x1 x2 s.u) t w)

  bisection-within : Within (bisection_of x1 x2 t).u
  bisection-within = bisect-within 10 _ _ (zero-within, one-within, wt)

  turn-within : (u : Float) → Within u → NextWithin (turn_of x1 x2 t u)
  unfolding turn_of
  turn-within u w = go (near_of x1 x2 t u) (lt (size_of d) tiny_f) refl
    where
      x : Float
      x = sample_cubic_of x1 x2 u ⊖ t

      d : Float
      d = sample_cubic_derivative_of x1 x2 u

      go : (a b : Bool) → lt (size_of d) tiny_f ≡ b → NextWithin (cond a Near (cond b Flat (Next (clamp01_of (u ⊖ x ⊘ d)))))
      go true b h = tt
      go false true h = tt
      go false false h =
          let s : AtMost 25 (sample_cubic_of x1 x2 u) = sample-at-most 1 (lit≤ tt) x1 x2 u (within-at-most x1 w1) (within-at-most x2 w2) (within-at-most u w) in
          let m : AtMost 26 x = less 26 (lit≤ tt) 25 1 (sample_cubic_of x1 x2 u) t (lit≤ tt) s (within-at-most t wt) in
          let k : AtMost 60 d = derivative-at-most 1 (lit≤ tt) x1 x2 u (within-at-most x1 w1) (within-at-most x2 w2) (within-at-most u w) in
          let f : T (is_finite d) = at-most-finite 60 d k in
          clamped (u ⊖ x ⊘ d) (sub_number binary32 u (x ⊘ d) (within-finite u w) (div-number binary32 x d (at-most-finite 26 x m) f (not-zero d tiny_f f limit-above-zero h)))

  newton-within : (n : ℕ) (turn : Turn) (u : Float) → NextWithin turn → Within u → Within (newton_of x1 x2 t n turn u).u
  unfolding newton_of
  newton-within zero turn u v w = bisection-within
  newton-within (suc n) Near u v w = w
  newton-within (suc n) Flat u v w = bisection-within
  newton-within (suc n) (Next v) u w z = newton-within n (turn_of x1 x2 t v) v (turn-within v w) w

pub found_within : FoundWithin
unfolding solution_of
found_within t x1 x2 w p q = go (at_end t)
  where
    go : (b : Bool) → Within (cond b (solved_at true t) (solve_of (clamp01_of x1) (clamp01_of x2) t)).u
    go true = w
    go false =
        let v1 = clamped x1 (finite_number x1 p) in
        let v2 = clamped x2 (finite_number x2 q) in
        newton-within (clamp01_of x1) (clamp01_of x2) t v1 v2 w 6 (turn_of (clamp01_of x1) (clamp01_of x2) t t) t (turn-within (clamp01_of x1) (clamp01_of x2) t v1 v2 w t w) w
