-- The whole number nearest to the root of n: there is one, it has 24 binary digits where n has 47 or 48, and `root_from` finds it. Assumes nothing.
use Rattle.std.proofs.Common.{◌≡◌, ℕ, zero, suc, ◌+◌, ◌-◌, ◌*◌, ◌^◌, ◌<◌, ◌≤◌, Bool, true, false, cond, ltb, refl, subst, le_trans, lt_of_lt_of_le, le_of_suc-le-suc, le_of_lt, lt_irrefl, mul-le-mul, le_antisymm, lt_of_not-le, arith, ltb-false, ltb-true}
use native.Mathlib.Nat.{two-pow-succ}
use Rattle.curves.specs.Root.{Encloses, root_from}

-- four times a number is not an odd number's square
odd-square : (q n : ℕ) → 4 * n ≤ (2 * q + 1) * (2 * q + 1) → 4 * n < (2 * q + 1) * (2 * q + 1)
odd-square q n h = omega arith

encloses : (q n : ℕ) → (2 * q - 1) * (2 * q - 1) < 4 * n → 4 * n ≤ (2 * (q + 1) - 1) * (2 * (q + 1) - 1) → Encloses q n
encloses q n l u = record { below = l; above = odd-square q n (subst (λ (x : ℕ). 4 * n ≤ x * x) (next q) u) }
  where
    next : (q : ℕ) → 2 * (q + 1) - 1 ≡ 2 * q + 1
    next q = omega arith

-- two of them are equal
pub level : (a b : ℕ) → (a < b → ⊥) → (b < a → ⊥) → a ≡ b
level a b h k = le_antisymm (le_of_suc-le-suc (lt_of_not-le k)) (le_of_suc-le-suc (lt_of_not-le h))

not-nearer : (n q q' : ℕ) → Encloses q n → Encloses q' n → q < q' → ⊥
not-nearer n q q' a b l =
    let s : 2 * q + 1 ≤ 2 * q' - 1 = omega arith in
    lt_irrefl (4 * n) (lt_of_lt_of_le a.above (le_trans (mul-le-mul s s) (le_of_lt b.below)))

pub nearest-same : (n q q' : ℕ) → Encloses q n → Encloses q' n → q ≡ q'
nearest-same n q q' a b = level q q' (not-nearer n q q' a b) (not-nearer n q' q b a)

-- the root of a number up to d * d is at most d
pub nearest-at-most : (q n d : ℕ) → Encloses q n → n ≤ d * d → q ≤ d
nearest-at-most q n d e h =
    le_of_suc-le-suc (lt_of_not-le (λ (g : suc d ≤ q).
    let s : 2 * d + 1 ≤ 2 * q - 1 = omega arith in
    omega (arith, mul-le-mul s s, e.below)))

-- a number of 47 or 48 binary digits has a root of 24
pub digits : (q n : ℕ) → Encloses q n → 2 ^ 46 ≤ n → n ≤ 0xffff_ff00_0000 → (0x80_0000 ≤ q) × (q < 0x100_0000)
digits q n e h k = (
  le_of_suc-le-suc (lt_of_not-le (λ (g : suc q ≤ 0x80_0000). low ((2 * q + 1) * (2 * q + 1)) (mul-le-mul (odd q g) (odd q g)) e.above)),
  lt_of_not-le (λ (g : 0x100_0000 ≤ q). high ((2 * q - 1) * (2 * q - 1)) (mul-le-mul (less q g) (less q g)) e.below),
)
  where
    odd : (q : ℕ) → suc q ≤ 0x80_0000 → 2 * q + 1 ≤ 0xff_ffff
    odd q g = omega arith

    low : (s : ℕ) → s ≤ 0xff_ffff * 0xff_ffff → 4 * n < s → ⊥
    low s g l = omega arith

    less : (q : ℕ) → 0x100_0000 ≤ q → 0x1ff_ffff ≤ 2 * q - 1
    less q g = omega arith

    high : (s : ℕ) → 0x1ff_ffff * 0x1ff_ffff ≤ s → s < 4 * n → ⊥
    high s g l = omega arith

-- `root_from` finds it
found : (k n q : ℕ) → (2 * q - 1) * (2 * q - 1) < 4 * n → 4 * n ≤ (2 * (q + 2 ^ k) - 1) * (2 * (q + 2 ^ k) - 1) → Encloses (root_from k n q) n
unfolding root_from
found zero n q l u = encloses q n l u
found (suc k) n q l u = go (found k n) (ltb ((2 * (q + 2 ^ k) - 1) * (2 * (q + 2 ^ k) - 1)) (4 * n)) refl
  where
    twice : q + 2 ^ suc k ≡ q + 2 ^ k + 2 ^ k
    twice = omega (arith, two-pow-succ k)

    go : ((p : ℕ) → (2 * p - 1) * (2 * p - 1) < 4 * n → 4 * n ≤ (2 * (p + 2 ^ k) - 1) * (2 * (p + 2 ^ k) - 1) → Encloses (root_from k n p) n)
        → (b : Bool) → ltb ((2 * (q + 2 ^ k) - 1) * (2 * (q + 2 ^ k) - 1)) (4 * n) ≡ b → Encloses (root_from k n (cond b (q + 2 ^ k) q)) n
    go ih true t = ih (q + 2 ^ k) (ltb-true _ _ t) (subst (λ (x : ℕ). 4 * n ≤ (2 * x - 1) * (2 * x - 1)) twice u)
    go ih false t = ih q l (ltb-false _ _ t)

pub root-found : (n : ℕ) → 2 ^ 46 ≤ n → n ≤ 0xffff_ff00_0000 → Encloses (root_from 24 n 0) n
root-found n h k = found 24 n 0 (omega arith) (omega arith)
