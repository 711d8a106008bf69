-- A blend by 0 equals its first value, where that is a value of binary32. Assumes nothing.
use Rattle.std.proofs.Common.{◌≡◌, ℕ, zero, suc, ◌+◌, ◌-◌, ◌*◌, ◌<◌, Bool, true, false, T, ℤ, pos, sym, refl, ap, ◌∙◌, true≢false, zero-lt-suc, mul-pos, mul-zero, mul-one, arith, le-ltb, lt-ltb, eq-eqb}
use mathlib.Core.Bool.{beq}
use lib.Ieee.{Float, nan, inf, fin, binary32, up, down, unlike, fits, round, sum, add, mul, eq, of_bits}
use lib.Ieee.Fits.{down_pos, up_pos}
use lib.Ieee.Exact.{HasValue}
use Rattle.math.specs.Rounded.{◌⊕◌, ◌⊖◌, ◌⊗◌, zero_f}
use Rattle.math.specs.Range.{is_finite}
use Rattle.math.specs.Blend.{blend_of}
use Rattle.math.proofs.Fitting.{rounds-none, round-held}
use Rattle.math.proofs.Zeros.{equal-none}

-- a product with 0
times_zero : (d c : Float) → T (is_finite d) → eq c zero_f ≡ true → (s : Bool) × (d ⊗ c ≡ fin s 0 (pos 0))
unfolding mul eq of_bits
times_zero nan c h k = absurd h
times_zero (inf s) c h k = absurd h
times_zero (fin s m e) nan h k = absurd (true≢false (sym k))
times_zero (fin s m e) (inf true) h k = absurd (true≢false (sym k))
times_zero (fin s m e) (inf false) h k = absurd (true≢false (sym k))
times_zero (fin s m e) (fin t n d) h k =
    let none : n * up d ≡ 0 = equal-none t n d k in
    (unlike s t, rounds-none binary32 (unlike s t) (m * up e * (n * up d)) (down e * down d) (ap (λ (x : ℕ). m * up e * x) none ∙ mul-zero (m * up e)) (mul-pos (down_pos e) (down_pos d)))

-- floats of one value are equal, and so are zeros
same_sign : (t : Bool) → beq t t ≡ true
same_sign true = refl
same_sign false = refl

value-eq : (x : Float) (t : Bool) (m : ℕ) (e : ℤ) → HasValue x t (m * up e) (down e) → eq x (fin t m e) ≡ true
unfolding eq
value-eq nan t m e v = absurd v
value-eq (inf s) t m e v = absurd v
value-eq (fin s n d) t m e v = rw (v.0, eq-eqb (n * up d * down e) (m * up e * down d) v.1, same_sign t)

zeros-eq : (s t : Bool) (e : ℤ) → eq (fin s 0 (pos 0)) (fin t 0 e) ≡ true
unfolding eq
zeros-eq true true e = rw (eq-eqb (0 * 1 * down e) (0 * up e * 1) (omega arith))
zeros-eq false false e = rw (eq-eqb (0 * 1 * down e) (0 * up e * 1) (omega arith))
zeros-eq true false e = rw (eq-eqb (0 * 1 * down e) (0 * up e * 1) (omega arith), eq-eqb (0 * 1 * down e) 0 (omega arith))
zeros-eq false true e = rw (eq-eqb (0 * 1 * down e) (0 * up e * 1) (omega arith), eq-eqb (0 * 1 * down e) 0 (omega arith))

-- a sum with nothing
sum_less : (t s : Bool) (a b c : ℕ) → b ≡ 0 → 0 < a → sum binary32 t a s b c ≡ round binary32 t a c
unfolding sum
sum_less true true a b c h k = ap (λ (x : ℕ). round binary32 true x c) (omega arith)
sum_less false false a b c h k = ap (λ (x : ℕ). round binary32 false x c) (omega arith)
sum_less true false a b c h k = rw (le-ltb a b (omega arith), lt-ltb b a (omega arith)) (ap (λ (x : ℕ). round binary32 true x c) (omega arith))
sum_less false true a b c h k = rw (le-ltb a b (omega arith)) (ap (λ (x : ℕ). round binary32 false x c) (omega arith))

sum-nothing : (t s : Bool) (a b c : ℕ) → a ≡ 0 → b ≡ 0 → 0 < c → (r : Bool) × (sum binary32 t a s b c ≡ fin r 0 (pos 0))
unfolding sum
sum-nothing true true a b c h k C = (true, rounds-none binary32 true (a + b) c (omega arith) C)
sum-nothing false false a b c h k C = (false, rounds-none binary32 false (a + b) c (omega arith) C)
sum-nothing true false a b c h k C = (false, rw (le-ltb a b (omega arith), le-ltb b a (omega arith)) (rounds-none binary32 false (a - b) c (omega arith) C))
sum-nothing false true a b c h k C = (false, rw (le-ltb a b (omega arith)) (rounds-none binary32 false (a - b) c (omega arith) C))

-- a value of binary32 and a 0
plus-zero : (a : Float) (s : Bool) → T (fits binary32 a) → T (is_finite a) → eq (a ⊕ fin s 0 (pos 0)) a ≡ true
unfolding add
plus-zero nan s F h = absurd h
plus-zero (inf t) s F h = absurd h
plus-zero (fin t zero e) s F h =
    let z = sum-nothing t s (0 * up e * 1) (0 * 1 * down e) (down e * 1) (omega arith) (omega arith) (mul-pos (down_pos e) (zero-lt-suc 0)) in
    rw z.1 (zeros-eq z.0 t e)
plus-zero (fin t (suc m) e) s F h =
    let a : 0 < suc m * up e = mul-pos (zero-lt-suc m) (up_pos e) in
    let z = sum_less t s (suc m * up e * 1) (0 * 1 * down e) (down e * 1) (omega arith) (omega arith) in
    rw (z, mul-one (suc m * up e), mul-one (down e)) (value-eq (round binary32 t (suc m * up e) (down e)) t (suc m) e (round-held binary32 t (suc m) e F))

-- a blend by 0
pub blend-zero : (a b c : Float) → T (fits binary32 a) → T (is_finite a) → T (is_finite (b ⊖ a)) → eq c zero_f ≡ true → eq (blend_of a b c) a ≡ true
blend-zero a b c F h d z =
    let p = times_zero (b ⊖ a) c d z in
    rw p.1 (plus-zero a p.0 F h)
