-- What is not above a float: where that is a whole number n, what is at most n in size; where the format holds it, its product with a t from 0 to 1. Assumes nothing.
use Rattle.std.proofs.Common.{◌≡◌, ℕ, ◌*◌, ◌<◌, ◌≤◌, Bool, true, false, T, pos, refl, ◌∙◌, true≢false, le_refl, mul-le-mul_right, mul_comm, mul-pos, arith, le→leb}
use mathlib.Core.Path.{subst⁻¹}
use lib.Ieee.{Float, nan, inf, fin, binary32, up, down, unlike, round, mul, lt, le, eq, fits, of_bits}
use lib.Ieee.Fits.{down_pos}
use lib.Ieee.Order.{round_mono, le_of_values}
use Rattle.math.specs.Whole.{Is}
use Rattle.math.specs.Rounded.{zero_f, ◌⊗◌}
use Rattle.math.specs.Range.{is_finite, Within, AtMost}
use Rattle.math.proofs.Fitting.{rounds-none, round-held}
use Rattle.math.proofs.Order.{le-sizes, le-chain, times_none}
use Rattle.math.proofs.Upward.{Up, up_none}
use Rattle.math.proofs.Wholes.{fraction-le}
use Rattle.math.proofs.Ranges.{within-at-most}

pub at-most-le : (n : ℕ) (x z : Float) → Is z n → AtMost n x → T (le x z)
unfolding le lt eq
at-most-le n nan z v h = absurd h
at-most-le n (inf s) z v h = absurd h
at-most-le n (fin false m e) z v h = subst⁻¹ T (fraction-le z n m e v) (le→leb (m * up e) (n * down e) h)
at-most-le n (fin true m e) nan v h = absurd v
at-most-le n (fin true m e) (inf t) v h = absurd v
at-most-le n (fin true m e) (fin true k d) v h = absurd (true≢false v.0)
at-most-le n (fin true m e) (fin false k d) v h = subst⁻¹ T (le-sizes true false (m * up e * down d) (k * up d * down e)) tt

-- a product that is 0
none-le : (s : Bool) (a c : ℕ) → a ≡ 0 → 0 < c → T (le (round binary32 s a c) zero_f)
none-le s a c h C = subst⁻¹ (λ (z : Float). T (le z zero_f)) (rounds-none binary32 s a c h C) (go s)
  where
    go : (s : Bool) → T (le (fin s 0 (pos 0)) zero_f)
    go true = unfold le lt eq of_bits in tt
    go false = unfold le lt eq of_bits in tt

pub share-le : (x y : Float) → Within x → T (fits binary32 y) → Up y → T (is_finite y) → T (le (x ⊗ y) y)
unfolding mul
share-le nan y w t u p = absurd (within-at-most nan w)
share-le (inf s) y w t u p = absurd (within-at-most (inf s) w)
share-le (fin s m e) nan w t u p = absurd p
share-le (fin s m e) (inf r) w t u p = absurd p
share-le (fin true m e) (fin r n d) w t u p =
    le-chain (round binary32 (unlike true r) (m * up e * (n * up d)) (down e * down d)) zero_f (fin r n d)
    (none-le (unlike true r) (m * up e * (n * up d)) (down e * down d) (times_none (m * up e) (n * up d) (up_none m e w.0)) (mul-pos (down_pos e) (down_pos d))) u
share-le (fin false m e) (fin true n d) w t u p =
    le-chain (round binary32 true (m * up e * (n * up d)) (down e * down d)) zero_f (fin true n d)
    (none-le true (m * up e * (n * up d)) (down e * down d) (mul_comm (m * up e) (n * up d) ∙ times_none (n * up d) (m * up e) (up_none n d u)) (mul-pos (down_pos e) (down_pos d))) u
share-le (fin false m e) (fin false n d) w t u p =
    le-chain (round binary32 false (m * up e * (n * up d)) (down e * down d)) (round binary32 false (n * up d) (down d)) (fin false n d)
    (round_mono binary32 (m * up e * (n * up d)) (down e * down d) (n * up d) (down d) (mul-pos (down_pos e) (down_pos d)) (down_pos d) (share (m * up e) (n * up d) (down e) (down d) (within-at-most (fin false m e) w)))
    (le_of_values (round binary32 false (n * up d) (down d)) (fin false n d) (n * up d) (down d) (n * up d) (down d) (down_pos d) (down_pos d) (round-held binary32 false n d t) (refl, refl) (le_refl (n * up d * down d)))
  where
    share : (a b E D : ℕ) → a ≤ 1 * E → a * b * D ≤ b * (E * D)
    share a b E D h = omega (arith, mul-le-mul_right (b * D) h)
