-- Which patterns read as a NaN, and that bits and floats are read back from each other. Assumes nothing.
use Rattle.std.proofs.Common.{◌≡◌, ℕ, ◌%◌, ◌<◌, ◌≤◌, true, false, not, T, sym, refl, ◌∙◌, le-ltb, lt-ltb}
use mathlib.Core.Bool.{false≢true}
use lib.Ieee.{Float, nan, inf, fin, binary32, is_nan, nan_bits, to_bits}
use lib.Ieee.Bits.{nan_bits_is, nan_bits_above, to_bits-of_bits, of_bits-to_bits}
use Rattle.math.specs.Bits.{NanBits, PatternBack, FloatBack}
use Rattle.math.specs.Rounded.{f32}

nan-only : (x : Float) → is_nan x ≡ true → x ≡ nan
unfolding is_nan
nan-only nan h = refl
nan-only (inf s) h = absurd (false≢true h)
nan-only (fin s m e) h = absurd (false≢true h)

pub number : (x : Float) → is_nan x ≡ false → T (not (is_nan x))
number x h = rw h tt

pub nan-bits : NanBits
unfolding to_bits
nan-bits = refl

-- a pattern is a NaN's where it is above infinity's, its sign apart
pub reads-nan : (n : ℕ) → 0x7f80_0000 < n % 0x8000_0000 → nan ≡ f32 n
reads-nan n h = sym (nan-only (f32 n) (sym (nan_bits_is binary32 n) ∙ (nan_bits_above binary32 n ∙ lt-ltb _ _ h)))

pub no_nan : (n : ℕ) → n % 0x8000_0000 ≤ 0x7f80_0000 → T (not (nan_bits binary32 n))
no_nan n h = rw (nan_bits_above, le-ltb _ _ h) tt

pub pattern-back : PatternBack
pattern-back n h k = to_bits-of_bits binary32 n h (number (f32 n) k)

pub float_back : FloatBack
float_back = of_bits-to_bits binary32
