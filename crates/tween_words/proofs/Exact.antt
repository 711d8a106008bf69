-- Patterns that are no NaN's, and floats that are none. Assumes nothing.
use Prim.Native.Nat.{ℕ, ◌%◌, ◌≤◌}
use native.Mathlib.Omega.{arith}
use mathlib.Core.Path.{◌≡◌, subst⁻¹}
use mathlib.Core.Bool.{true, false, not}
use lib.Dec.{T}
use lib.Ieee.{Float, binary32, nan_bits, is_nan, lt, le}
use Rattle.math.proofs.Order.{lt-le, le-numbers, not_le_of_lt}
use Rattle.math.proofs.Patterns.{no_nan, number}

pub low : (n : ℕ) → n ≤ 0x4c00_0000 → T (not (nan_bits binary32 n))
low n h = no_nan n (omega arith)

pub sized : (n : ℕ) → n % 0x8000_0000 ≤ 0x4b80_0000 → T (not (nan_bits binary32 n))
sized n h = no_nan n (omega arith)

-- what is below another
pub under : (x y : Float) → lt x y ≡ true → T (not (is_nan x))
under x y h = number x (le-numbers x y (lt-le x y (subst⁻¹ T h tt))).0

pub not-over : (x y : Float) → lt x y ≡ true → le y x ≡ false
not-over x y h = not_le_of_lt x y (subst⁻¹ T h tt)
