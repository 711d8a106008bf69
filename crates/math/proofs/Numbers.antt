-- Which results are no NaN: a rounded fraction, a finite float less a float that is none, and the quotient of two finite floats of which the second is not a zero. Assumes nothing.
use Rattle.std.proofs.Common.{◌≡◌, ℕ, zero, suc, ◌+◌, ◌-◌, ◌*◌, ◌^◌, Bool, true, false, not, ◌&&◌, T, ltb, sym, refl, ap, ◌∙◌, subst, true≢false, le_of_eq, zero-mul, arith, le→leb}
use mathlib.Core.Path.{subst⁻¹}
use mathlib.Core.Bool.{beq}
use lib.Dec.{eqb-suc-zero}
use lib.Ieee.{Float, nan, inf, fin, Format, unlike, prec, emax, low, up, down, odd, units, round, sum, add, sub, div, neg, lt, le, eq, is_nan, of_bits}
use lib.Ieee.Fits.{round_is}
use lib.Ieee.Order.{drop, kept}
use Rattle.math.specs.Rounded.{zero_f}
use Rattle.math.specs.Range.{size_of, is_finite}
use Rattle.math.proofs.Choice.{by-test}
use Rattle.math.proofs.Order.{le-sizes, le-lt-chain}
use Rattle.math.proofs.Zeros.{equal-none}

abbrev Number : Float → Type 0
Number x = is_nan x ≡ false

inf-number : (s : Bool) → is_nan (inf s) ≡ false
unfolding is_nan
inf-number s = refl

odd_number : (d : ℕ) (s : Bool) (q k l : ℕ) → is_nan (odd d s q k l) ≡ false
unfolding is_nan odd
odd_number d s zero k l = refl
odd_number d s (suc q) k l = refl

units_number : (f : Format) (s : Bool) (q k : ℕ) → is_nan (units f s q k) ≡ false
unfolding units
units_number f s q k = by-test Number (ltb (q * 2 ^ k) (2 ^ (low f + suc (emax f)))) _ _ (λ _. odd_number (suc (prec f)) s q k (low f)) (λ _. inf-number s)

round_number : (f : Format) (s : Bool) (a c : ℕ) → is_nan (round f s a c) ≡ false
round_number f s a c = ap is_nan (round_is f s a c) ∙ units_number f s (kept (prec f) (a * 2 ^ low f) c) (drop (prec f) (a * 2 ^ low f) c)

sum_number : (f : Format) (s : Bool) (a : ℕ) (t : Bool) (b c : ℕ) → is_nan (sum f s a t b c) ≡ false
unfolding sum
sum_number f s a t b c =
    by-test Number (beq s t) _ _ (λ _. round_number f s (a + b) c)
    (λ _. by-test Number (ltb a b) _ _ (λ _. round_number f t (b - a) c) (λ _. round_number f (s && ltb b a) (a - b) c))

pub sub_number : (f : Format) (x y : Float) → T (is_finite x) → is_nan y ≡ false → is_nan (sub f x y) ≡ false
unfolding sub neg add is_nan
sub_number f nan y p q = absurd p
sub_number f (inf s) y p q = absurd p
sub_number f (fin s m e) nan p q = absurd (true≢false q)
sub_number f (fin s m e) (inf t) p q = refl
sub_number f (fin s m e) (fin t n d) p q = sum_number f s (m * up e * down d) (not t) (n * up d * down e) (down e * down d)

pub div-number : (f : Format) (x y : Float) → T (is_finite x) → T (is_finite y) → eq y zero_f ≡ false → is_nan (div f x y) ≡ false
unfolding div eq is_nan of_bits
div-number f nan y p q h = absurd p
div-number f (inf s) y p q h = absurd p
div-number f (fin s m e) nan p q h = absurd q
div-number f (fin s m e) (inf t) p q h = absurd q
div-number f (fin s m e) (fin true zero d) p q h = absurd (true≢false (sym (simp zero-mul) ∙ h))
div-number f (fin s m e) (fin false zero d) p q h = absurd (true≢false (sym (simp zero-mul) ∙ h))
div-number f (fin s m e) (fin t (suc n) d) p q h = rw (eqb-suc-zero n) (round_number f (unlike s t) (m * up e * down d) (suc n * up d * down e))

-- what is not below a limit above 0 in size is not a zero
pub not-zero : (y limit : Float) → T (is_finite y) → T (lt zero_f limit) → lt (size_of y) limit ≡ false → eq y zero_f ≡ false
unfolding le lt eq of_bits
not-zero nan limit p l h = absurd p
not-zero (inf s) limit p l h = absurd p
not-zero (fin s m e) limit p l h = go (eq (fin s m e) zero_f) refl
  where
    go : (z : Bool) → eq (fin s m e) zero_f ≡ z → z ≡ false
    go false k = refl
    go true k =
        let a = m * up e * 1 in
        let b = 0 * 1 * down e in
        let none : a ≡ b = omega (arith, equal-none s m e k) in
        absurd (subst T h (le-lt-chain (fin false m e) zero_f limit (subst⁻¹ T (le-sizes false false a b) (le→leb a b (le_of_eq none))) l))

pub finite_number : (x : Float) → T (is_finite x) → is_nan x ≡ false
unfolding is_nan
finite_number nan p = absurd p
finite_number (inf s) p = absurd p
finite_number (fin s m e) p = refl
