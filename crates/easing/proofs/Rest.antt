-- What the last arm of a match on a number is told: it is none of 0 to k - 1, so it is at least k. Assumes nothing.
use Prim.Native.Nat.{ℕ, zero, suc, ◌≤◌}
use native.Mathlib.Omega.{arith}
use mathlib.Core.Path.{◌≡◌}

abbrev Rest : ℕ → ℕ → Type 0
Rest zero x = Unit {0}
Rest (suc k) x = Rest k x × (x ≡ k → ⊥)

pub at_least : (k x : ℕ) → Rest k x → k ≤ x
at_least zero x r = omega arith
at_least (suc k) x (r, h) = let a : k ≤ x = at_least k x r in omega (arith, h)
