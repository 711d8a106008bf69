-- Document 01, "What is ported": "binary32; each operation rounded once, to nearest even". The operators on which every formula is written, and the constants that all layers share.
use Rattle.std.specs.Prelude.{ℕ, pos, from_bits, Float}
use Rattle.std.specs.Float.{binary32}
use Rattle.std.specs.Float.Ieee.{add, sub, mul, div, of_int}

infixl 6 ◌⊕◌ ◌⊖◌
infixl 7 ◌⊗◌ ◌⊘◌
abbrev pub ◌⊕◌ : Float → Float → Float
x ⊕ y = add binary32 x y

abbrev pub ◌⊖◌ : Float → Float → Float
x ⊖ y = sub binary32 x y

abbrev pub ◌⊗◌ : Float → Float → Float
x ⊗ y = mul binary32 x y

abbrev pub ◌⊘◌ : Float → Float → Float
x ⊘ y = div binary32 x y

-- the f32 of a bit pattern
abbrev pub f32 : ℕ → Float
f32 = from_bits binary32

-- the f32 nearest to a whole number, which is that number up to 16,777,216
abbrev pub whole_f : ℕ → Float
whole_f n = of_int binary32 (pos n)

-- +0
abbrev pub zero_f : Float
zero_f = f32 0

-- 0.5
abbrev pub half_f : Float
half_f = f32 0x3f00_0000

-- 1
abbrev pub one_f : Float
one_f = f32 0x3f80_0000

-- 2
abbrev pub two_f : Float
two_f = f32 0x4000_0000

-- 16,777,216
abbrev pub top_f : Float
top_f = f32 0x4b80_0000

-- 2 ^ -23, Rust's f32::EPSILON
abbrev pub epsilon_f : Float
epsilon_f = f32 0x3400_0000
