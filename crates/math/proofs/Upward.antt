-- Floats from 0 up. A rounded sum ±a ± b is from 0 up where -(±b) is at most ±a, a product where both factors are. Assumes nothing.
use Rattle.std.proofs.Common.{◌≡◌, ℕ, ◌+◌, ◌-◌, ◌*◌, ◌<◌, ◌≤◌, Bool, true, false, cond, not, T, ltb, ℤ, pos, refl, ◌∙◌, subst, zero-lt-suc, mul_comm, mul-pos, arith, le→leb, leb→le, le-ltb}
use mathlib.Core.Path.{subst⁻¹}
use mathlib.Core.Bool.{not-not}
use lib.Ieee.{Float, nan, inf, fin, Format, up, down, round, sum, add, sub, mul, neg, lt, le, eq, is_nan, of_bits}
use lib.Ieee.Fits.{down_pos}
use lib.Ieee.Order.{round_mono}
use Rattle.math.specs.Rounded.{zero_f}
use Rattle.math.specs.Range.{is_finite, max_zero_of, MaxZeroUp}
use Rattle.math.proofs.Fitting.{rounds-none}
use Rattle.math.proofs.Order.{leq, le-sizes, le-numbers, lt-le, times_none}

abbrev pub Up : Float → Type 0
Up x = T (le zero_f x)

-- with its sign set only a zero is from 0 up
pub up_none : (m : ℕ) (e : ℤ) → Up (fin true m e) → m * up e ≡ 0
unfolding le lt eq of_bits
up_none m e h = none (m * up e) (down e) (leb→le (0 * 1 * down e + m * up e * 1) 0 (subst T (le-sizes false true (0 * 1 * down e) (m * up e * 1)) h))
  where
    none : (a d : ℕ) → 0 * 1 * d + a * 1 ≤ 0 → a ≡ 0
    none a d h = omega arith

-- rounded fractions
zero-up : Up zero_f
unfolding le lt eq of_bits
zero-up = tt

minus-zero-up : Up (fin true 0 (pos 0))
unfolding le lt eq of_bits
minus-zero-up = tt

pub round_up : (f : Format) (a c : ℕ) → 0 < c → Up (round f false a c)
unfolding of_bits
round_up f a c C = subst (λ (z : Float). T (le z (round f false a c))) (rounds-none f false 0 1 refl (zero-lt-suc 0)) (round_mono f 0 1 a c (zero-lt-suc 0) C (least a c))
  where
    least : (a c : ℕ) → 0 * c ≤ a * 1
    least a c = omega arith

round-none : (f : Format) (a c : ℕ) → a ≡ 0 → 0 < c → Up (round f true a c)
round-none f a c h C = subst⁻¹ Up (rounds-none f true a c h C) minus-zero-up

-- sums
sum-up : (f : Format) (s : Bool) (a : ℕ) (t : Bool) (b c : ℕ) → 0 < c → T (leq (not t) b s a) → Up (sum f s a t b c)
unfolding sum
sum-up f false a false b c C h = round_up f (a + b) c C
sum-up f true a true b c C h = round-none f (a + b) c (none (leb→le (b + a) 0 h)) C
  where
    none : b + a ≤ 0 → a + b ≡ 0
    none h = omega arith
sum-up f false a true b c C h = rw (le-ltb a b (leb→le b a h)) (round_up f (a - b) c C)
sum-up f true a false b c C h = rw (le-ltb b a (leb→le a b h)) (go (ltb a b))
  where
    go : (t : Bool) → Up (cond t (round f false (b - a) c) (round f false (a - b) c))
    go true = round_up f (b - a) c C
    go false = round_up f (a - b) c C

-- of two floats from 0 up
either-sign : (s t : Bool) (a b d e : ℕ) → (s ≡ true → a ≡ 0) → (t ≡ true → b ≡ 0) → T (leq (not t) (b * e) s (a * d))
either-sign false false a b d e p q = tt
either-sign false true a b d e p q = le→leb (b * e) (a * d) (omega (arith, times_none b e (q refl)))
either-sign true false a b d e p q = le→leb (a * d) (b * e) (omega (arith, times_none a d (p refl)))
either-sign true true a b d e p q = le→leb (b * e + a * d) 0 (omega (arith, times_none b e (q refl), times_none a d (p refl)))

pub none_of : (s : Bool) (m : ℕ) (e : ℤ) → Up (fin s m e) → s ≡ true → m * up e ≡ 0
none_of s m e h p = up_none m e (subst (λ (b : Bool). Up (fin b m e)) p h)

pub add-up : (f : Format) (x y : Float) → Up x → Up y → Up (add f x y)
unfolding add le lt eq of_bits
add-up f nan y h k = absurd h
add-up f (inf true) y h k = absurd h
add-up f (inf false) nan h k = absurd k
add-up f (inf false) (inf true) h k = absurd k
add-up f (inf false) (inf false) h k = tt
add-up f (inf false) (fin t n d) h k = tt
add-up f (fin s m e) nan h k = absurd k
add-up f (fin s m e) (inf true) h k = absurd k
add-up f (fin s m e) (inf false) h k = tt
add-up f (fin s m e) (fin t n d) h k =
    sum-up f s (m * up e * down d) t (n * up d * down e) (down e * down d) (mul-pos (down_pos e) (down_pos d))
    (either-sign s t (m * up e) (n * up d) (down d) (down e) (none_of s m e h) (none_of t n d k))

-- x less a y that is at most x
pub sub-up : (f : Format) (x y : Float) → T (is_finite y) → T (le y x) → Up (sub f x y)
unfolding sub neg add le lt eq of_bits
sub-up f x nan p h = absurd p
sub-up f x (inf t) p h = absurd p
sub-up f nan (fin t n d) p h = absurd h
sub-up f (inf true) (fin t n d) p h = absurd h
sub-up f (inf false) (fin t n d) p h = tt
sub-up f (fin s m e) (fin t n d) p h =
    sum-up f s (m * up e * down d) (not t) (n * up d * down e) (down e * down d) (mul-pos (down_pos e) (down_pos d))
    (subst⁻¹ (λ (u : Bool). T (leq u (n * up d * down e) s (m * up e * down d))) (not-not t)
    (subst T (le-sizes t s (n * up d * down e) (m * up e * down d)) h))

-- products
pub mul-up : (f : Format) (x y : Float) → T (is_finite x) → T (is_finite y) → Up x → Up y → Up (mul f x y)
unfolding mul
mul-up f nan y p q h k = absurd p
mul-up f (inf s) y p q h k = absurd p
mul-up f (fin s m e) nan p q h k = absurd q
mul-up f (fin s m e) (inf t) p q h k = absurd q
mul-up f (fin false m e) (fin false n d) p q h k = round_up f (m * up e * (n * up d)) (down e * down d) (mul-pos (down_pos e) (down_pos d))
mul-up f (fin true m e) (fin true n d) p q h k = round_up f (m * up e * (n * up d)) (down e * down d) (mul-pos (down_pos e) (down_pos d))
mul-up f (fin true m e) (fin false n d) p q h k = round-none f (m * up e * (n * up d)) (down e * down d) (times_none (m * up e) (n * up d) (up_none m e h)) (mul-pos (down_pos e) (down_pos d))
mul-up f (fin false m e) (fin true n d) p q h k =
    round-none f (m * up e * (n * up d)) (down e * down d) (mul_comm (m * up e) (n * up d) ∙ times_none (n * up d) (m * up e) (up_none n d k)) (mul-pos (down_pos e) (down_pos d))

pub square-up : (f : Format) (x : Float) → T (is_finite x) → Up (mul f x x)
unfolding mul
square-up f nan p = absurd p
square-up f (inf s) p = absurd p
square-up f (fin true m e) p = round_up f (m * up e * (m * up e)) (down e * down e) (mul-pos (down_pos e) (down_pos e))
square-up f (fin false m e) p = round_up f (m * up e * (m * up e)) (down e * down e) (mul-pos (down_pos e) (down_pos e))

-- max with 0
pub max-zero-up : MaxZeroUp
max-zero-up x = go (lt zero_f x) refl
  where
    go : (b : Bool) → lt zero_f x ≡ b → Up (cond b x zero_f)
    go true h = lt-le zero_f x (subst⁻¹ T h tt)
    go false h = zero-up

pub max-zero-number : (x : Float) → is_nan (max_zero_of x) ≡ false
max-zero-number x = (le-numbers zero_f (max_zero_of x) (max-zero-up x)).1
