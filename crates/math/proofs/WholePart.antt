-- The whole part of a float as a u32, by where it lies against -1 and 2 ^ 32. Assumes nothing.
use Rattle.std.proofs.Common.{◌≡◌, ℕ, ◌+◌, ◌*◌, ◌/◌, ◌<◌, ◌≤◌, min, true, false, T, pos, sym, refl, ◌∙◌, subst, true≢false, le_of_eq, lt_of_lt_of_le, lt_of_le_of_lt, div-lt_iff_lt-mul, mul-pos, le-div_iff_mul-le, mul-one, arith, lt→ltb, ltb-false, ltb-true, lt-ltb}
use mathlib.Core.Bool.{false≢true}
use lib.Ieee.{Float, nan, inf, fin, up, down, lt, to_unsigned}
use lib.Ieee.Fits.{down_pos}

some-above : (a d k : ℕ) → 0 < d → 0 < k → 0 < a + k * d
some-above a d k D K = lt_of_lt_of_le (mul-pos K D) (lower a (k * d))
  where
    lower : (a b : ℕ) → b ≤ a + b
    lower a b = omega arith

wider : (a d : ℕ) → a * 1 < 4294967296 * d → a * 1 < 18446744073709551616 * d
wider a d h = omega arith

-- a fraction below n has a whole part below n
pub part-below : (n a d : ℕ) → 0 < d → a * 1 < n * d → a / d < n
part-below n a d D h = (div-lt_iff_lt-mul D).1 (lt_of_le_of_lt (le_of_eq (sym (mul-one a))) h)

same-cap : (q : ℕ) → q < 4294967296 → (min q 18446744073709551615 < 4294967296) × (min q 18446744073709551615 ≡ min q 4294967295)
same-cap q h = (omega arith, omega arith)

-- what the cast to a u64 asks, and that its whole part is the u32's
pub in-range : (x : Float) → lt (fin true 1 (pos 0)) x ≡ true → lt x (fin false 1 (pos 32)) ≡ true
    → T (lt x (fin false 1 (pos 64))) × (to_unsigned 64 x < 4294967296) × (to_unsigned 64 x ≡ to_unsigned 32 x)
unfolding lt to_unsigned
in-range nan h k = absurd (false≢true h)
in-range (inf true) h k = absurd (false≢true h)
in-range (inf false) h k = absurd (false≢true k)
in-range (fin true m e) h k = (lt→ltb 0 (m * up e * 1 + 18446744073709551616 * down e) (some-above (m * up e * 1) (down e) 18446744073709551616 (down_pos e) (omega arith)), omega arith, refl)
in-range (fin false m e) h k =
    let l = ltb-true (m * up e * 1) (4294967296 * down e) k in
    let q = part-below 4294967296 (m * up e) (down e) (down_pos e) l in
    (lt→ltb (m * up e * 1) (18446744073709551616 * down e) (wider (m * up e) (down e) l), (same-cap (m * up e / down e) q).0, (same-cap (m * up e / down e) q).1)

capped : (q : ℕ) → 4294967296 ≤ q → 4294967295 ≡ min q 4294967295
capped q h = omega arith

pub past-range : (x : Float) → lt (fin true 1 (pos 0)) x ≡ true → lt x (fin false 1 (pos 32)) ≡ false → 4294967295 ≡ to_unsigned 32 x
unfolding lt to_unsigned
past-range nan h k = absurd (false≢true h)
past-range (inf true) h k = absurd (false≢true h)
past-range (inf false) h k = refl
past-range (fin true m e) h k =
    absurd (false≢true (sym k ∙ lt-ltb 0 (m * up e * 1 + 4294967296 * down e) (some-above (m * up e * 1) (down e) 4294967296 (down_pos e) (omega arith))))
past-range (fin false m e) h k =
    capped (m * up e / down e) ((le-div_iff_mul-le (down_pos e)).1 (subst (λ (a : ℕ). 4294967296 * down e ≤ a) (mul-one (m * up e)) (ltb-false (m * up e * 1) (4294967296 * down e) k)))

pub before-range : (x : Float) → lt (fin true 1 (pos 0)) x ≡ false → 0 ≡ to_unsigned 32 x
unfolding lt to_unsigned
before-range nan h = refl
before-range (inf true) h = refl
before-range (inf false) h = absurd (true≢false h)
before-range (fin true m e) h = refl
before-range (fin false m e) h =
    absurd (false≢true (sym h ∙ lt-ltb 0 (1 * down e + m * up e * 1) (swap (1 * down e) (m * up e * 1) (mul-pos (omega arith) (down_pos e)))))
  where
    swap : (a b : ℕ) → 0 < a → 0 < a + b
    swap a b h = omega arith
