-- Document 01, "Easing": "Square root: IEEE 754's, for 0 to 1; an inner step, not a public call". `SquareRoot` is the promise, and `sqrt_of` computes the one float that keeps it.
use Rattle.std.specs.Prelude.{◌≡◌, ℕ, zero, suc, ◌+◌, ◌-◌, ◌*◌, ◌/◌, ◌^◌, ◌<◌, ◌≤◌, true, false, cond, T, nat_lt, Float}
use Rattle.std.specs.Float.{nan, inf, fin, binary32}
use Rattle.std.specs.Float.Ieee.{fits, up, down, odd, size, lt}
use Rattle.std.specs.Float.Ieee.Exact.{HasValue}
use Rattle.math.specs.Rounded.{zero_f}
use Rattle.math.specs.Range.{Within}

-- "the returned significand, doubled, less and plus one, squared, encloses the scaled operand": q is the whole number nearest to the root of n
pub record Encloses (q n : ℕ) : Type 0 where
  pub below : (2 * q - 1) * (2 * q - 1) < 4 * n
  pub above : 4 * n < (2 * q + 1) * (2 * q + 1)

-- the float q * 2 ^ j / 2 ^ 149, for a significand q of 24 binary digits
abbrev pub float_at : ℕ → ℕ → Float
float_at q j = odd 24 false q j 149

-- "Above 0, stated over whole numbers": x is n * (2 ^ j) ^ 2 / (2 ^ 149) ^ 2, with an n of 47 or 48 binary digits, and r is q * 2 ^ j / 2 ^ 149
pub record Root (x r : Float) : Type 0 where
  pub n : ℕ
  pub j : ℕ
  pub q : ℕ
  pub scaled : HasValue x false (n * 2 ^ (2 * j)) (2 ^ 298)
  pub low : 2 ^ 46 ≤ n
  pub high : n < 2 ^ 48
  pub nearest : Encloses q n
  pub result : r ≡ float_at q j

-- the promise, for an x from 0 to 1: a zero is its own root, with its sign
pub record SquareRoot (x r : Float) : Type 0 where
  pub of_zero : lt zero_f x ≡ false → r ≡ x
  pub above_zero : lt zero_f x ≡ true → Root x r

-- x * 2 ^ 298, which is whole for every finite x of binary32
abbrev pub scaled_of : Float → ℕ
scaled_of nan = 0
scaled_of (inf s) = 0
scaled_of (fin s m e) = m * up e * 2 ^ 298 / down e

-- the j that leaves n / 2 ^ (2 * j) 47 or 48 binary digits; `size` counts them
abbrev pub place_of : ℕ → ℕ
place_of n = (size n - 47) / 2

-- the largest number from q to below q + 2 ^ k that, doubled, less one, squared, is below 4 * n: digit by digit, the highest first
unfoldable pub root_from : ℕ → ℕ → ℕ → ℕ
root_from zero n q = q
root_from (suc k) n q = let p = q + 2 ^ k in root_from k n (cond (nat_lt ((2 * p - 1) * (2 * p - 1)) (4 * n)) p q)

-- the root of n / 2 ^ 298, at the place j
abbrev pub root_at : ℕ → ℕ → Float
root_at n j = float_at (root_from 24 (n / 2 ^ (2 * j)) 0) j

-- the square root of an x from 0 to 1
unfoldable pub sqrt_of : Float → Float
sqrt_of x = cond (lt zero_f x) (let n = scaled_of x in root_at n (place_of n)) x

-- it keeps the promise, at each f32 from 0 to 1
abbrev pub SqrtIs : Type 0
SqrtIs = (x : Float) → T (fits binary32 x) → Within x → SquareRoot x (sqrt_of x)

-- no two floats keep it, so that no other does
abbrev pub SqrtUnique : Type 0
SqrtUnique = (x r r' : Float) → SquareRoot x r → SquareRoot x r' → r ≡ r'

abbrev pub SqrtOnly : Type 0
SqrtOnly = (x r : Float) → T (fits binary32 x) → Within x → SquareRoot x r → r ≡ sqrt_of x

-- the root is from 0 to 1 itself
abbrev pub SqrtWithin : Type 0
SqrtWithin = (x : Float) → T (fits binary32 x) → Within x → Within (sqrt_of x)
