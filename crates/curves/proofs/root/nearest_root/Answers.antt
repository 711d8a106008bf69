-- `nearest_root` meets its contract, from any guess whose square fits: the first loop goes down to a q with q * q - q < n, the second up to the last such q. Assumes nothing.
use Rattle.std.proofs.Common.{◌≡◌, ℕ, zero, suc, ◌+◌, ◌-◌, ◌*◌, ◌<◌, ◌≤◌, mul-le-mul, arith}
use mathlib.Core.Path.{subst⁻¹}
use Rattle.curves.proofs.root.nearest_root.Goals as goal
use Rattle.curves.proofs.root.nearest_root.Goals.{In-loop-q}

-- the two edges, by the square of q
lower : (q n : ℕ) → 0 < n → q * q - q < n → (2 * q - 1) * (2 * q - 1) < 4 * n
lower zero n p h = omega arith
lower (suc k) n p h = let e : 2 * suc k - 1 ≡ 2 * k + 1 = omega arith in subst⁻¹ (λ (x : ℕ). x * x < 4 * n) e (omega arith)

upper : (q n : ℕ) → n ≤ q * (q + 1) → 4 * n < (2 * q + 1) * (2 * q + 1)
upper q n h = omega arith

-- a square is at least its root, and fits
square : (q : ℕ) → q ≤ 0x1000_0000 → (q ≤ q * q) × (q * q ≤ 0x1000_0000 * 0x1000_0000)
square zero h = (omega arith, omega arith)
square (suc k) h = (omega arith, mul-le-mul h h)

-- what is above the root is above 0
some : (q m n : ℕ) → 0x4000_0000_0000 ≤ n → n ≤ q * q - m → 0 < q
some zero m n h k = absurd (omega arith)
some (suc q) m n h k = omega arith

above : (c : In-loop-q) → 0 < c.loop-q.q
above c = some c.loop-q.q _ c.args.n c.requires.0 c.loop-q-test.true

pub returns : goal.returns
returns c = let q = c.loop-q-2.q in record { below = lower q c.args.n (omega (arith, c.requires.0)) c.loop-q-2.invariant.1; above = upper q c.args.n (omega (arith, c.loop-q-2-test.false)) }
