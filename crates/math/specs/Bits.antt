-- Request 2, "Write the event log": "f32 bits", of every float. The way back, the f32 of a pattern, is `f32` in `Rounded`.
use Rattle.std.specs.Prelude.{◌≡◌, ℕ, ◌<◌, false, T, is_nan, to_bits, Float}
use Rattle.std.specs.Float.{nan, binary32}
use Rattle.std.specs.Float.Ieee.{fits}
use Rattle.math.specs.Rounded.{f32}

-- the 32 bits of x: a zero keeps its sign, and every NaN has the same bits, 0x7fc00000
abbrev pub bits_of : Float → ℕ
bits_of x = to_bits binary32 x

-- which is computed
abbrev pub NanBits : Type 0
NanBits = bits_of nan ≡ 0x7fc0_0000

-- the float of a pattern that is no NaN's has that pattern
abbrev pub PatternBack : Type 0
PatternBack = (n : ℕ) → n < 4294967296 → is_nan (f32 n) ≡ false → bits_of (f32 n) ≡ n

-- and the pattern of an f32 is read as that float, a NaN's too
abbrev pub FloatBack : Type 0
FloatBack = (x : Float) → T (fits binary32 x) → f32 (bits_of x) ≡ x
