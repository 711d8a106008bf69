-- One step of n, as a float: k / n for whole numbers, rounded once. Assumes nothing.
use Rattle.std.proofs.Common.{◌≡◌, ℕ, ◌<◌, ◌≤◌, false, T, mul-le-mul_right, arith}
use mathlib.Core.Path.{subst⁻¹}
use lib.Ieee.{binary32, round, le, is_nan}
use lib.Ieee.Order.{round_mono}
use Rattle.math.specs.Rounded.{◌⊘◌, whole_f, zero_f}
use Rattle.math.specs.Range.{Within}
use Rattle.math.proofs.Order.{le-numbers}
use Rattle.math.proofs.Wholes.{whole_is, div_is}
use Rattle.math.proofs.Upward.{round_up}
use Rattle.math.proofs.Sizes.{round-at-most}
use Rattle.math.proofs.Ranges.{one-held, at-most-within}

module _ (n : ℕ) (N : 0 < n) (l : n ≤ 65537) where
  pub quotient : (k : ℕ) → k ≤ n → whole_f k ⊘ whole_f n ≡ round binary32 false k n
  quotient k h = div_is binary32 (whole_f k) (whole_f n) k n (whole_is binary32 k (omega (arith, h, l))) (whole_is binary32 n (omega (arith, l))) N

  round-within : (k : ℕ) → k ≤ n → Within (round binary32 false k n)
  round-within k h = at-most-within (round binary32 false k n) (round_up binary32 k n N) (round-at-most binary32 1 one-held false k n N (omega (arith, h)))

  pub step-within : (k : ℕ) → k ≤ n → Within (whole_f k ⊘ whole_f n)
  step-within k h = subst⁻¹ Within (quotient k h) (round-within k h)

  pub step-number : (k : ℕ) → k ≤ n → is_nan (whole_f k ⊘ whole_f n) ≡ false
  step-number k h = (le-numbers zero_f (whole_f k ⊘ whole_f n) (step-within k h).0).1

  pub step-rises : (j k : ℕ) → j ≤ k → k ≤ n → T (le (whole_f j ⊘ whole_f n) (whole_f k ⊘ whole_f n))
  step-rises j k h m = rw (quotient j (omega (arith, h, m)), quotient k m) (round_mono binary32 j n k n N N (mul-le-mul_right n h))
