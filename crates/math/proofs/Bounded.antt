-- How large f32 sums, differences, products and quotients can be, where the bound is a whole number up to 2 ^ 24; and how large the shared constants are. Assumes nothing.
use Rattle.std.proofs.Common.{ℕ, ◌+◌, ◌*◌, ◌≤◌, T, refl, zero-le, le_of_eq, mul-one, lit≤}
use lib.Ieee.{Float, binary32, lt, le, eq, of_bits}
use Rattle.math.specs.Rounded.{◌⊕◌, ◌⊖◌, ◌⊗◌, ◌⊘◌, zero_f, half_f, one_f, two_f, top_f}
use Rattle.math.specs.Range.{Within, is_value, AtMost}
use Rattle.math.specs.Whole.{Is}
use Rattle.math.specs.Blend.{blend_of}
use Rattle.math.proofs.Wholes.{whole_is, power-is}
use Rattle.math.proofs.Sizes.{AtLeast, size-at-most, add-at-most, sub-at-most, mul-at-most, div-at-most}

module _ (n : ℕ) (small : n ≤ 16777216) (p q : ℕ) (x y : Float) where
  pub plus : p + q ≤ n → AtMost p x → AtMost q y → AtMost n (x ⊕ y)
  plus = add-at-most binary32 n (whole_is binary32 n small) p q x y

  pub less : p + q ≤ n → AtMost p x → AtMost q y → AtMost n (x ⊖ y)
  less = sub-at-most binary32 n (whole_is binary32 n small) p q x y

  pub times : p * q ≤ n → AtMost p x → AtMost q y → AtMost n (x ⊗ y)
  times = mul-at-most binary32 n (whole_is binary32 n small) p q x y

  pub over : p * q ≤ n → AtMost p x → AtLeast q y → AtMost n (x ⊘ y)
  over = div-at-most binary32 n (whole_is binary32 n small) p q x y

-- times a t that is at most 1
pub shrunk : (n : ℕ) → n ≤ 16777216 → (x t : Float) → AtMost n x → AtMost 1 t → AtMost n (x ⊗ t)
shrunk n small x t h k = times n small n 1 x t (le_of_eq (mul-one n)) h k

pub zero-most : (n : ℕ) → AtMost n zero_f
unfolding of_bits
zero-most n = zero-le

pub half-most : AtMost 1 half_f
unfolding of_bits
half-most = lit≤ tt

pub one-most : AtMost 1 one_f
unfolding of_bits
one-most = lit≤ tt

pub two-most : AtMost 2 two_f
unfolding of_bits
two-most = lit≤ tt

pub two-least : AtLeast 1 two_f
unfolding of_bits
two-least = lit≤ tt

pub zero-within : Within zero_f
unfolding le lt eq of_bits
zero-within = (tt, tt)

pub half-within : Within half_f
unfolding le lt eq of_bits
half-within = (tt, tt)

pub one-within : Within one_f
unfolding le lt eq of_bits
one-within = (tt, tt)

pub top-is : Is top_f 16777216
unfolding of_bits
top-is = (refl, refl)

pub value-most : (x : Float) → T (is_value x) → AtMost 16777216 x
value-most x h = size-at-most 16777216 x top_f top-is h

-- a blend of two values by a c up to 2 ^ 27
pub blend-most : (a b c : Float) → AtMost 16777216 a → AtMost 16777216 b → AtMost 134217728 c → AtMost 9007199254740992 (blend_of a b c)
blend-most a b c h k m =
    add-at-most binary32 9007199254740992 (power-is binary32 53 (lit≤ tt)) 16777216 4503599627370496 a ((b ⊖ a) ⊗ c) (lit≤ tt) h
    (mul-at-most binary32 4503599627370496 (power-is binary32 52 (lit≤ tt)) 33554432 134217728 (b ⊖ a) c (lit≤ tt) (sub-at-most binary32 33554432 (power-is binary32 25 (lit≤ tt)) 16777216 16777216 b a (lit≤ tt) k h) m)
