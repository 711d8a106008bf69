-- How the square root scales its operand: a significand of at most 24 binary digits is brought to 47 or 48, by which its exponent becomes even. Assumes nothing.
use Rattle.std.proofs.Common.{◌≡◌, ℕ, suc, ◌+◌, ◌-◌, ◌*◌, ◌/◌, ◌^◌, ◌<◌, ◌≤◌, Bool, true, false, leb, ℤ, pos, negsuc, sym, refl, ap, ◌∙◌, subst, le_trans, le_of_eq, lt_of_lt_of_le, le_of_lt, lt_irrefl, mul-le-mul_right, mul_assoc, mul_comm, mul-lt-mul_of_pos_right, one-mul, le-div_iff_mul-le, mul-one, le-mul_of_pos_right, le_of_mul-le-mul_right, mul-div_cancel, arith, pow_pos, pow_mono, pow-add, shl_lt, shr_lt, leb-false, leb-true}
use mathlib.Core.Path.{subst⁻¹}
use lib.Ieee.{Float, fin, up, down, size}
use lib.Ieee.Digits.{size-lt, size_reaches, size-le}
use lib.Ieee.Exact.{HasValue}
use lib.Ieee.Fits.{down_pos}
use Rattle.curves.specs.Root.{Encloses, Root, float_at, scaled_of, place_of}
use Rattle.curves.proofs.Nearest.{level, nearest-at-most}
use Rattle.math.proofs.Fitting.{pow-at-most}

-- what a root is taken of
abbrev pub Ready : ℕ → Type 0
Ready n = (0x4000_0000_0000 ≤ n) × (n ≤ 0xffff_ff00_0000)

-- at 48 digits a significand has been shifted by 24 at least, so that the last 24 are 0
ready : (sig s : ℕ) → sig < 2 ^ 24 → 2 ^ 46 ≤ sig * 2 ^ s → sig * 2 ^ s < 2 ^ 48 → Ready (sig * 2 ^ s)
ready sig s f l h = (l, go (leb 24 s) refl)
  where
    go : (b : Bool) → leb 24 s ≡ b → sig * 2 ^ s ≤ 0xffff_ff00_0000
    go true t =
        let e : s - 24 + 24 ≡ s = omega (arith, leb-true 24 s t) in
        let k : sig * 2 ^ s ≡ sig * 2 ^ (s - 24) * 2 ^ 24 = ap (λ (n : ℕ). sig * 2 ^ n) (sym e) ∙ ap (λ (n : ℕ). sig * n) (pow-add 2 (s - 24) 24) ∙ sym (mul_assoc sig (2 ^ (s - 24)) (2 ^ 24)) in
        last (sig * 2 ^ s) (sig * 2 ^ (s - 24)) k h
      where
        last : (n a : ℕ) → n ≡ a * 0x100_0000 → n < 0x1_0000_0000_0000 → n ≤ 0xffff_ff00_0000
        last n a k h = omega arith
    go false t = under (sig * 2 ^ s) (lt_of_lt_of_le (shl_lt 24 s f) (pow_mono {j = 47} (omega (arith, leb-false 24 s t))))
      where
        under : (n : ℕ) → n < 0x8000_0000_0000 → n ≤ 0xffff_ff00_0000
        under n h = omega arith

pub rooted : (x : Float) (n j q : ℕ) → HasValue x false (n * 2 ^ (2 * j)) (2 ^ 298) → Ready n → Encloses q n → Root x (float_at q j)
rooted x n j q v r e = record { n = n; j = j; q = q; scaled = v; low = r.0; high = omega arith; nearest = e; result = refl }

-- the definition's place, by the size of m * 2 ^ w, and what is left before it
abbrev pub cut : ℕ → ℕ
cut n = n / 2 ^ (2 * place_of n)

sized : (m w : ℕ) → 0 < m → m < 2 ^ 24 → 149 ≤ w → Ready (cut (m * 2 ^ w)) × (cut (m * 2 ^ w) * 2 ^ (2 * place_of (m * 2 ^ w)) ≡ m * 2 ^ w)
sized m w some fine far =
    let n = m * 2 ^ w in
    let j = place_of n in
    let s = w - 2 * j in
    let long : w ≤ size n = pow-at-most w (size n) (le_trans (le-mul_of_pos_right (2 ^ w) some) (le_trans (le_of_eq (mul_comm (2 ^ w) m)) (le_of_lt (size-lt n)))) in
    let short : size n ≤ 24 + w = size-le n (24 + w) (shl_lt 24 w fine) in
    let even : s + 2 * j ≡ w = omega arith in
    let split : n ≡ m * 2 ^ s * 2 ^ (2 * j) = ap (λ (a : ℕ). m * 2 ^ a) (sym even) ∙ ap (λ (a : ℕ). m * a) (pow-add 2 s (2 * j)) ∙ sym (mul_assoc m (2 ^ s) (2 ^ (2 * j))) in
    let part : cut n ≡ m * 2 ^ s = ap (λ (a : ℕ). a / 2 ^ (2 * j)) split ∙ mul-div_cancel (m * 2 ^ s) (pow_pos (2 * j)) in
    let low : 2 ^ 46 ≤ cut n = (le-div_iff_mul-le (pow_pos (2 * j))).1 (le_trans (le_of_eq (sym (pow-add 2 46 (2 * j)))) (size_reaches n (46 + 2 * j) (omega arith))) in
    let high : cut n < 2 ^ 48 = shr_lt 48 (2 * j) (lt_of_lt_of_le (size-lt n) (pow_mono {j = 48 + 2 * j} (omega arith))) in
    (subst⁻¹ Ready part (ready m s fine (subst (λ (a : ℕ). 2 ^ 46 ≤ a) part low) (subst (λ (a : ℕ). a < 2 ^ 48) part high)), ap (λ (a : ℕ). a * 2 ^ (2 * j)) part ∙ sym split)

-- 2 ^ e is 2 ^ w / 2 ^ 298
weight : (e : ℤ) → down e ≤ 2 ^ 149 → (w : ℕ) × (149 ≤ w) × (up e * 2 ^ 298 ≡ 2 ^ w * down e)
weight (pos k) h = (k + 298, omega arith, sym (pow-add 2 k 298) ∙ sym (mul-one (2 ^ (k + 298))))
weight (negsuc k) h =
    let l : suc k ≤ 149 = pow-at-most (suc k) 149 h in
    let e : 298 - suc k + suc k ≡ 298 = omega arith in
    (298 - suc k, omega arith, one-mul (2 ^ 298) ∙ ap (λ (n : ℕ). 2 ^ n) (sym e) ∙ pow-add 2 (298 - suc k) (suc k))

abbrev Placed : Float → ℕ → Type 0
Placed x n = Ready (cut n) × HasValue x false (cut n * 2 ^ (2 * place_of n)) (2 ^ 298)

pub placed : (m : ℕ) (e : ℤ) → 0 < m → m < 2 ^ 24 → down e ≤ 2 ^ 149 → Placed (fin false m e) (scaled_of (fin false m e))
placed m e some fine h =
    let w = weight e h in
    let v : m * up e * 2 ^ 298 ≡ m * 2 ^ w.0 * down e = mul_assoc m (up e) (2 ^ 298) ∙ ap (λ (n : ℕ). m * n) w.2 ∙ sym (mul_assoc m (2 ^ w.0) (down e)) in
    let n : scaled_of (fin false m e) ≡ m * 2 ^ w.0 = ap (λ (n : ℕ). n / down e) v ∙ mul-div_cancel (m * 2 ^ w.0) (down_pos e) in
    let z = sized m w.0 some fine w.1 in
    subst⁻¹ (Placed (fin false m e)) n (z.0, (refl, v ∙ ap (λ (n : ℕ). n * down e) (sym z.1)))

-- the place that n * 2 ^ (2 * j) has, and how large its root is
not-further : (n j n' j' : ℕ) → n < 2 ^ 48 → 2 ^ 46 ≤ n' → n * 2 ^ (2 * j) ≡ n' * 2 ^ (2 * j') → j < j' → ⊥
not-further n j n' j' h k e l =
    lt_irrefl (n * 2 ^ (2 * j))
    (lt_of_lt_of_le (mul-lt-mul_of_pos_right h (pow_pos (2 * j)))
    (le_trans (le_of_eq (sym (pow-add 2 48 (2 * j))))
    (le_trans (pow_mono {j = 46 + 2 * j'} (omega arith))
    (le_trans (le_of_eq (pow-add 2 46 (2 * j'))) (le_trans (mul-le-mul_right (2 ^ (2 * j')) k) (le_of_eq (sym e)))))))

pub place_same : (n j n' j' : ℕ) → 2 ^ 46 ≤ n → n < 2 ^ 48 → 2 ^ 46 ≤ n' → n' < 2 ^ 48 → n * 2 ^ (2 * j) ≡ n' * 2 ^ (2 * j') → j ≡ j'
place_same n j n' j' l h l' h' e = level j j' (not-further n j n' j' h l' e) (not-further n' j' n j h' l (sym e))

pub root-at-most : (n j q : ℕ) → 2 ^ 46 ≤ n → n * 2 ^ (2 * j) ≤ 2 ^ 298 → Encloses q n → q * 2 ^ j ≤ 2 ^ 149
root-at-most n j q l h e =
    let i : 46 + 2 * j ≤ 298 = pow-at-most (46 + 2 * j) 298 (le_trans (le_of_eq (pow-add 2 46 (2 * j))) (le_trans (mul-le-mul_right (2 ^ (2 * j)) l) h)) in
    let d = 149 - j in
    let k : n ≤ 2 ^ (2 * d) = le_of_mul-le-mul_right (le_trans h (le_of_eq (ap (λ (a : ℕ). 2 ^ a) (whole j i) ∙ pow-add 2 (2 * d) (2 * j)))) (pow_pos (2 * j)) in
    le_trans (mul-le-mul_right (2 ^ j) (nearest-at-most q n (2 ^ d) e (le_trans k (le_of_eq (ap (λ (a : ℕ). 2 ^ a) (twice d) ∙ pow-add 2 d d)))))
    (le_of_eq (sym (pow-add 2 d j) ∙ ap (λ (a : ℕ). 2 ^ a) (back j i)))
  where
    whole : (j : ℕ) → 46 + 2 * j ≤ 298 → 298 ≡ 2 * (149 - j) + 2 * j
    whole j i = omega arith

    twice : (d : ℕ) → 2 * d ≡ d + d
    twice d = omega arith

    back : (j : ℕ) → 46 + 2 * j ≤ 298 → 149 - j + j ≡ 149
    back j i = omega arith
