-- The helpers' definitions and the constants, computed. Assumes nothing.
use Rattle.std.proofs.Common.{◌≡◌, Bool, true, false, refl}
use lib.Ieee.{Float, binary32, round, nan, inf, add, sub, mul, lt, eq, neg, of_int, to_unsigned, of_bits}
use Rattle.math.specs.Rounded.{f32, ◌⊕◌, ◌⊗◌, zero_f, half_f, one_f, two_f, top_f, epsilon_f}
use Rattle.math.specs.Range.{clamp01_of, max_zero_of, size_of}
use Rattle.math.specs.Whole.{ceil_of, whole_part_of}
use Rattle.math.specs.Lost.{eighth_f, is_off, lost_by}

-- -0 is 0x8000_0000, -1.5 is 0xbfc0_0000, -0.5 is 0xbf00_0000, 0.5 is 0x3f00_0000, 2.5 is 0x4020_0000, 3 is 0x4040_0000, 2^24 is 0x4b80_0000 and 2^32 is 0x4f80_0000
pub helpers : (clamp01_of (f32 0x8000_0000) ≡ f32 0x8000_0000)
    × (clamp01_of (inf false) ≡ f32 0x3f80_0000)
    × (clamp01_of nan ≡ nan)
    × (max_zero_of (f32 0x8000_0000) ≡ f32 0)
    × (max_zero_of nan ≡ f32 0)
    × (size_of (f32 0x8000_0000) ≡ f32 0)
    × (ceil_of (f32 0x4020_0000) ≡ f32 0x4040_0000)
    × (ceil_of (f32 0x4040_0000) ≡ f32 0x4040_0000)
    × (ceil_of (f32 0x0000_0001) ≡ f32 0x3f80_0000)
    × (ceil_of (f32 0xbfc0_0000) ≡ f32 0xbf80_0000)
    × (ceil_of (f32 0xbf00_0000) ≡ f32 0x8000_0000)
    × (ceil_of (f32 0x8000_0000) ≡ f32 0x8000_0000)
    × (ceil_of (f32 0x7f7f_ffff) ≡ f32 0x7f7f_ffff)
    × (whole_part_of (f32 0x4020_0000) ≡ 2)
    × (whole_part_of (f32 0xbfc0_0000) ≡ 0)
    × (whole_part_of (f32 0x4f80_0000) ≡ 4294967295)
    × (whole_part_of nan ≡ 0)
unfolding lt neg of_int to_unsigned of_bits
helpers = (refl, refl, refl, refl, refl, refl, refl, refl, refl, refl, refl, refl, refl, refl, refl, refl, refl)

-- each shared constant is the f32 nearest to its decimal
pub constants : (zero_f ≡ round binary32 false 0 1)
    × (half_f ≡ round binary32 false 5 10)
    × (one_f ≡ round binary32 false 1 1)
    × (two_f ≡ round binary32 false 2 1)
    × (top_f ≡ round binary32 false 16777216 1)
    × (epsilon_f ≡ round binary32 false 1 8388608)
    × (eighth_f ≡ round binary32 false 125 1000)
unfolding round of_bits
constants = (refl, refl, refl, refl, refl, refl, refl)

-- whether the sum of two floats loses what is added
abbrev added : Float → Float → Bool
added old x = lost_by old x (old ⊕ x)

-- 0.02, which is 0x3ca3_d70a, at the float before 65,536 and from there on; at 262,144 the sum is 0.03125 on, at 524,288 it stands still. 16,777,215 and 4 come to 16,777,220
pub losses : (added (f32 0x477f_ffff) (f32 0x3ca3_d70a) ≡ false)
    × (added (f32 0x4780_0000) (f32 0x3ca3_d70a) ≡ true)
    × (added (f32 0x4880_0000) (f32 0x3ca3_d70a) ≡ true)
    × (added (f32 0x4900_0000) (f32 0x3ca3_d70a) ≡ true)
    × (added (f32 0x4b7f_ffff) (f32 0x4080_0000) ≡ true)
    × (added (f32 0x4b7f_ffff) one_f ≡ false)
unfolding of_bits add sub mul lt eq
losses = (refl, refl, refl, refl, refl, refl)

-- "the eighth in f32 too": of 5 and of 3 times the least float it is 1 time and 0 times that; both sums are 1 time that off
pub eighths : (added (f32 0x0100_0001) (f32 5) ≡ false) × (added (f32 0x0100_0001) (f32 3) ≡ true)
unfolding of_bits add sub mul lt eq
eighths = (refl, refl)

-- "what was refused stays refused": a half of the least float is 0, and a sum that stays at 0 is not off by it
pub vanished : (half_f ⊗ f32 1 ≡ zero_f) × (is_off zero_f (half_f ⊗ f32 1) zero_f ≡ false) × (lost_by zero_f (half_f ⊗ f32 1) zero_f ≡ true)
unfolding of_bits add sub mul lt eq
vanished = (refl, refl, refl)
