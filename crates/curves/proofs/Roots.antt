-- The square root of an f32 from 0 to 1: `sqrt_of` keeps the promise `SquareRoot`, nothing else does, and it stays from 0 to 1. Assumes nothing.
use Rattle.std.proofs.Common.{◌≡◌, ℕ, zero, suc, ◌*◌, ◌^◌, ◌<◌, ◌≤◌, Bool, true, false, T, sym, refl, ap, ◌∙◌, subst, le_trans, le_of_eq, zero-lt-suc, mul-pos, mul-one, arith, pow_pos, ltb-true}
use mathlib.Core.Path.{subst⁻¹}
use mathlib.Core.Bool.{false≢true}
use native.Mathlib.Nat.{eq_of_mul-eq-mul_right}
use lib.Ieee.{Float, nan, inf, fin, binary32, up, down, odd, size, lt, le, eq, fits, of_bits}
use lib.Ieee.Exact.{HasValue, odd_sign}
use lib.Ieee.Fits.{down_pos}
use lib.Ieee.Order.{le_of_values}
use lib.Ieee.Positive.{positive_of_value, values_of_le}
use Rattle.math.specs.Rounded.{f32, zero_f, one_f}
use Rattle.math.specs.Range.{Within}
use Rattle.math.proofs.Fitting.{few-digits, fine-grained}
use Rattle.math.proofs.Wholes.{zero_is, one-is}
use Rattle.curves.specs.Root.{Encloses, Root, SquareRoot, float_at, scaled_of, place_of, root_from, root_at, sqrt_of, SqrtIs, SqrtUnique, SqrtOnly, SqrtWithin}
use Rattle.curves.proofs.Nearest.{root-found, nearest-same}
use Rattle.curves.proofs.Scaled.{cut, placed, rooted, place_same, root-at-most}

root_is : (x : Float) → T (fits binary32 x) → lt zero_f x ≡ true → T (le x one_f) → Root x (root_at (scaled_of x) (place_of (scaled_of x)))
unfolding lt le eq of_bits
root_is nan f h k = absurd (false≢true h)
root_is (inf true) f h k = absurd (false≢true h)
root_is (inf false) f h k = absurd k
root_is (fin true m e) f h k = absurd (false≢true h)
root_is (fin false zero e) f h k = absurd (none (down e) (up e) (ltb-true (0 * 1 * down e) (0 * up e * 1) h))
  where
    none : (d u : ℕ) → 0 * 1 * d < 0 * u * 1 → ⊥
    none d u h = omega arith
root_is (fin false (suc m) e) f h k =
    let n = scaled_of (fin false (suc m) e) in
    let p = placed (suc m) e (zero-lt-suc m) (few-digits binary32 false (suc m) e f) (fine-grained binary32 false m e f) in
    rooted (fin false (suc m) e) (cut n) (place_of n) (root_from 24 (cut n) 0) p.1 p.0 (root-found (cut n) p.0.0 p.0.1)

pub sqrt-is : SqrtIs
unfolding sqrt_of
sqrt-is x f w = record { of_zero = λ h. rw h; above_zero = λ h. rw h (root_is x f h w.1) }

-- two roots of one operand: first the place is the same, then the significand
same-value : (x : Float) (a b c : ℕ) → HasValue x false a c → HasValue x false b c → a ≡ b
same-value nan a b c v w = absurd v
same-value (inf s) a b c v w = absurd v
same-value (fin s m e) a b c v w = eq_of_mul-eq-mul_right (down e) (down_pos e) a b (sym v.1 ∙ w.1)

same-root : (x r r' : Float) → Root x r → Root x r' → r ≡ r'
same-root x r r' a b =
    let e : a.n * 2 ^ (2 * a.j) ≡ b.n * 2 ^ (2 * b.j) = same-value x _ _ (2 ^ 298) a.scaled b.scaled in
    let j : a.j ≡ b.j = place_same a.n a.j b.n b.j a.low a.high b.low b.high e in
    let n : b.n ≡ a.n = eq_of_mul-eq-mul_right (2 ^ (2 * b.j)) (pow_pos (2 * b.j)) b.n a.n (sym e ∙ ap (λ (k : ℕ). a.n * 2 ^ (2 * k)) j) in
    let m : Encloses b.q a.n = subst (Encloses b.q) n b.nearest in
    let q : a.q ≡ b.q = nearest-same a.n a.q b.q a.nearest m in
    a.result ∙ ap (λ (k : ℕ). float_at k a.j) q ∙ ap (float_at b.q) j ∙ sym b.result

pub sqrt-unique : SqrtUnique
sqrt-unique x r r' a b = go (lt zero_f x) refl
  where
    go : (t : Bool) → lt zero_f x ≡ t → r ≡ r'
    go true h = same-root x r r' (a.above_zero h) (b.above_zero h)
    go false h = a.of_zero h ∙ sym (b.of_zero h)

pub sqrt-only : SqrtOnly
sqrt-only x r f w s = sqrt-unique x r (sqrt_of x) s (sqrt-is x f w)

-- from 0 to 1, as fractions
value-within : (r : Float) (a c : ℕ) → 0 < c → HasValue r false a c → a ≤ c → Within r
value-within r a c C v h = (le_of_values zero_f r 0 1 a c (zero-lt-suc 0) C zero_is v (omega arith), le_of_values r one_f a c 1 1 C (zero-lt-suc 0) v one-is (omega arith))

root-within : (x r : Float) → T (le x one_f) → Root x r → Within r
root-within x r h a =
    let P : 0 < a.n * 2 ^ (2 * a.j) = mul-pos (omega (arith, a.low)) (pow_pos (2 * a.j)) in
    let k : a.n * 2 ^ (2 * a.j) * 1 ≤ 1 * 2 ^ 298 = values_of_le x one_f (a.n * 2 ^ (2 * a.j)) (2 ^ 298) 1 1 (positive_of_value x _ (2 ^ 298) a.scaled P) (positive_of_value one_f 1 1 one-is (zero-lt-suc 0)) a.scaled one-is h in
    subst⁻¹ Within a.result (value-within (float_at a.q a.j) (a.q * 2 ^ a.j) (2 ^ 149) (pow_pos 149) (odd_sign 24 false a.q a.j 149)
    (root-at-most a.n a.j a.q a.low (le_trans (le_of_eq (sym (mul-one (a.n * 2 ^ (2 * a.j))))) k) a.nearest))

pub sqrt-within : SqrtWithin
sqrt-within x f w = go (sqrt-is x f w) (lt zero_f x) refl
  where
    go : SquareRoot x (sqrt_of x) → (b : Bool) → lt zero_f x ≡ b → Within (sqrt_of x)
    go s true h = root-within x (sqrt_of x) w.1 (s.above_zero h)
    go s false h = subst⁻¹ Within (s.of_zero h) w

-- computed: a zero keeps its sign; subnormals; 0.25; the last below 1; 1
pub roots : (sqrt_of (f32 0x0000_0000) ≡ f32 0x0000_0000)
    × (sqrt_of (f32 0x8000_0000) ≡ f32 0x8000_0000)
    × (sqrt_of (f32 0x0000_0001) ≡ f32 0x1a35_04f3)
    × (sqrt_of (f32 0x0000_0002) ≡ f32 0x1a80_0000)
    × (sqrt_of (f32 0x0000_0003) ≡ f32 0x1a9c_c471)
    × (sqrt_of (f32 0x007f_ffff) ≡ f32 0x1fff_ffff)
    × (sqrt_of (f32 0x0080_0000) ≡ f32 0x2000_0000)
    × (sqrt_of (f32 0x3e80_0000) ≡ f32 0x3f00_0000)
    × (sqrt_of (f32 0x3f00_0000) ≡ f32 0x3f35_04f3)
    × (sqrt_of (f32 0x3f7f_ffff) ≡ f32 0x3f7f_ffff)
    × (sqrt_of (f32 0x3f80_0000) ≡ f32 0x3f80_0000)
unfolding sqrt_of root_from size odd lt of_bits
roots = (refl, refl, refl, refl, refl, refl, refl, refl, refl, refl, refl)
