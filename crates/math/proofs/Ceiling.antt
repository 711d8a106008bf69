-- The least whole number that is not below a float: below 2 ^ 24 in size from the whole part, and from there on the float itself. Assumes nothing.
use Rattle.std.proofs.Common.{◌≡◌, ℕ, suc, ◌+◌, ◌-◌, ◌*◌, ◌/◌, ◌%◌, ◌^◌, ◌<◌, ◌≤◌, min, Bool, true, false, ◌&&◌, T, ltb, ◌⊎◌, ℤ, pos, sym, refl, ap, ◌∙◌, subst, inl, inr, ⊎_elim, le_trans, le_of_suc-le-suc, add-zero, le_of_lt, mod-lt, suc-mul, div-lt_iff_lt-mul, add-mul, one-mul, div-add-mod', le-div_iff_mul-le, div-one, arith, ltb-false, ltb-true}
use mathlib.Core.Path.{subst⁻¹}
use mathlib.Core.Bool.{false≢true}
use lib.Arith.{digits_div}
use lib.Ieee.{Float, nan, inf, fin, binary32, up, down, lt, neg, fits, to_unsigned, of_int, round, of_bits}
use lib.Ieee.Fits.{down_pos}
use lib.Ieee.Exact.{HasValue}
use lib.Ieee.Back.{round_whole}
use Rattle.math.specs.Range.{AtMost}
use Rattle.math.specs.Rounded.{zero_f, top_f}
use Rattle.math.specs.Whole.{ceil_of, CeilingLeast, whole_part_of}
use Rattle.math.proofs.Choice.{and_both, and-fails}
use Rattle.math.proofs.Fitting.{no_size, held, no_fraction}
use Rattle.math.proofs.WholePart.{part-below}
use Rattle.math.proofs.Wholes.{whole_is, lt-fraction}
use Rattle.math.proofs.Sizes.{at-most-neg, is-at-most}

-- the least whole number not below a / d, by whether the whole part is below it
pub up_more : (a d : ℕ) → 0 < d → a / d * d < a → (a + (d - 1)) / d ≡ a / d + 1
up_more a d D h =
    let s : a / d * d + a % d ≡ a = div-add-mod' a d in
    let l : a % d < d = mod-lt a D in
    ap (λ (x : ℕ). x / d) (split a (a / d * d) (a % d) d ((a / d + 1) * d) s h D (simp (add-mul, one-mul))) ∙ digits_div (a / d + 1) (less (a % d) d l D)
  where
    split : (a w r d z : ℕ) → w + r ≡ a → w < a → 0 < d → z ≡ w + d → a + (d - 1) ≡ z + (r - 1)
    split a w r d z s h D n = omega arith

    less : (r d : ℕ) → r < d → 0 < d → r - 1 < d
    less r d h D = omega arith

pub up_same : (a d : ℕ) → 0 < d → a ≤ a / d * d → (a + (d - 1)) / d ≡ a / d
up_same a d D h =
    let s : a / d * d + a % d ≡ a = div-add-mod' a d in
    ap (λ (x : ℕ). x / d) (split a (a / d * d) (a % d) d s h) ∙ digits_div (a / d) (less d D)
  where
    split : (a w r d : ℕ) → w + r ≡ a → a ≤ w → a + (d - 1) ≡ w + (d - 1)
    split a w r d s h = omega arith

    less : (d : ℕ) → 0 < d → d - 1 < d
    less d D = omega arith

-- what `ceil` needs of an x between 0 and 2 ^ 24, and of its whole part w
abbrev pub Above : Float → ℕ → Type 0
Above x w = (w < 16777216) × (lt (of_int binary32 (pos w)) x ≡ true → of_int binary32 (pos (w + 1)) ≡ ceil_of x) × (lt (of_int binary32 (pos w)) x ≡ false → of_int binary32 (pos w) ≡ ceil_of x)

uncapped : (q : ℕ) → q < 16777216 → q ≡ min q 4294967295
uncapped q h = omega arith

pub above_zero : (x : Float) → lt zero_f x && lt x top_f ≡ true → Above x (whole_part_of x)
unfolding lt to_unsigned of_int of_bits
above_zero nan h = absurd (false≢true h)
above_zero (inf true) h = absurd (false≢true h)
above_zero (inf false) h = absurd (false≢true h)
above_zero (fin true m e) h = absurd (false≢true h)
above_zero (fin false m e) h =
    let a = m * up e in
    let d = down e in
    let b = and_both (ltb (0 * 1 * d) (a * 1)) (ltb (a * 1) (1 * 16777216 * d)) h in
    let q : a / d < 16777216 = part-below 16777216 a d (down_pos e) (ltb-true (a * 1) (16777216 * d) b.1) in
    let v : HasValue (round binary32 false (a / d) 1) false (a / d) 1 = round_whole binary32 false (a / d) (le_of_lt q) in
    subst (Above (fin false m e)) (uncapped (a / d) q) (
      q,
      (λ l. ap (λ (n : ℕ). round binary32 false n 1) (sym (up_more a d (down_pos e) (ltb-true (a / d * d) a (sym (lt-fraction (round binary32 false (a / d) 1) (a / d) m e v) ∙ l))))),
      (λ l. ap (λ (n : ℕ). round binary32 false n 1) (sym (up_same a d (down_pos e) (ltb-false (a / d * d) a (sym (lt-fraction (round binary32 false (a / d) 1) (a / d) m e v) ∙ l))))),
    )

-- an x between -2 ^ 24 and 0: the whole part of its size
pub below-zero : (x : Float) → lt x zero_f && lt (neg top_f) x ≡ true → neg (of_int binary32 (pos (whole_part_of (neg x)))) ≡ ceil_of x
unfolding lt to_unsigned neg of_bits
below-zero nan h = absurd (false≢true h)
below-zero (inf true) h = absurd (false≢true h)
below-zero (inf false) h = absurd (false≢true h)
below-zero (fin false m e) h = absurd (none (m * up e * 1) (down e) (ltb-true (m * up e * 1) (0 * 1 * down e) (and_both (lt (fin false m e) zero_f) (lt (neg top_f) (fin false m e)) h).0))
  where
    none : (a d : ℕ) → a < 0 * 1 * d → ⊥
    none a d h = omega arith
below-zero (fin true m e) h =
    let b = and_both (ltb 0 (m * up e * 1 + 0 * 1 * down e)) (ltb (m * up e * 1) (1 * 16777216 * down e)) h in
    ap (λ (n : ℕ). neg (of_int binary32 (pos n))) (sym (uncapped (m * up e / down e) (part-below 16777216 (m * up e) (down e) (down_pos e) (ltb-true (m * up e * 1) (16777216 * down e) b.1))))

-- any other x is whole already, or no number
whole-stays : (s : Bool) (m k : ℕ) → T (fits binary32 (fin s m (pos k))) → fin s m (pos k) ≡ ceil_of (fin s m (pos k))
unfolding neg fits
whole-stays false m k t = sym (held binary32 m k t) ∙ ap (λ (n : ℕ). of_int binary32 (pos n)) (sym (div-one (m * 2 ^ k + 0) ∙ add-zero (m * 2 ^ k)))
whole-stays true m k t = ap neg (sym (held binary32 m k t)) ∙ ap (λ (n : ℕ). neg (of_int binary32 (pos n))) (sym (div-one (m * 2 ^ k)))

finite-stays : (s : Bool) (m : ℕ) (e : ℤ) → T (fits binary32 (fin s m e)) → (m * up e ≡ 0) ⊎ (16777216 * down e ≤ m * up e) → fin s m e ≡ ceil_of (fin s m e)
finite-stays s m e t h =
    let w : (k : ℕ) × (e ≡ pos k) = ⊎_elim (λ z. (0, (no_size binary32 s m e t z).1)) (λ b. no_fraction binary32 s m e t b) h in
    subst⁻¹ (λ (e : ℤ). T (fits binary32 (fin s m e)) → fin s m e ≡ ceil_of (fin s m e)) w.1 (whole-stays s m w.0) t

far : (a d : ℕ) → 1 * 16777216 * d ≤ a * 1 → 16777216 * d ≤ a
far a d h = omega arith

pub stays : (x : Float) → T (fits binary32 x) → lt zero_f x && lt x top_f ≡ false → lt x zero_f && lt (neg top_f) x ≡ false → x ≡ ceil_of x
unfolding lt neg of_bits
stays nan t h k = refl
stays (inf s) t h k = refl
stays (fin false m e) t h k =
    finite-stays false m e t
    (⊎_elim (λ z. inl (none (m * up e) (down e) (ltb-false (0 * 1 * down e) (m * up e * 1) z))) (λ z. inr (far (m * up e) (down e) (ltb-false (m * up e * 1) (1 * 16777216 * down e) z)))
    (and-fails (ltb (0 * 1 * down e) (m * up e * 1)) (ltb (m * up e * 1) (1 * 16777216 * down e)) h))
  where
    none : (a d : ℕ) → a * 1 ≤ 0 * 1 * d → a ≡ 0
    none a d h = omega arith
stays (fin true m e) t h k =
    finite-stays true m e t
    (⊎_elim (λ z. inl (none (m * up e) (down e) (ltb-false 0 (m * up e * 1 + 0 * 1 * down e) z))) (λ z. inr (far (m * up e) (down e) (ltb-false (m * up e * 1) (1 * 16777216 * down e) z)))
    (and-fails (ltb 0 (m * up e * 1 + 0 * 1 * down e)) (ltb (m * up e * 1) (1 * 16777216 * down e)) k))
  where
    none : (a d : ℕ) → a * 1 + 0 * 1 * d ≤ 0 → a ≡ 0
    none a d h = omega arith

pub ceiling-least : CeilingLeast
ceiling-least a d D = (
  reach ((a + (d - 1)) / d * d) ((a + (d - 1)) % d) (div-add-mod' (a + (d - 1)) d) (mod-lt (a + (d - 1)) D),
  λ k l. short (k * d) (suc k * d) (suc-mul k d) ((le-div_iff_mul-le D).0 l),
)
  where
    reach : (w r : ℕ) → w + r ≡ a + (d - 1) → r < d → a ≤ w
    reach w r h l = omega arith

    short : (w z : ℕ) → z ≡ w + d → z ≤ a + (d - 1) → w < a
    short w z e l = omega arith

-- a fraction up to n has a whole part and a ceiling up to n
module _ (n a d : ℕ) (D : 0 < d) (h : a ≤ n * d) where
  pub part-most : a / d ≤ n
  part-most = le_of_suc-le-suc ((div-lt_iff_lt-mul D).1 (omega (arith, suc-mul n d)))

  pub ceiling-most : (a + (d - 1)) / d ≤ n
  ceiling-most = le_of_suc-le-suc ((div-lt_iff_lt-mul D).1 (omega (arith, suc-mul n d)))

whole-most : (w n : ℕ) → w ≤ n → n ≤ 16777216 → AtMost n (of_int binary32 (pos w))
whole-most w n h l = is-at-most (of_int binary32 (pos w)) w n (whole_is binary32 w (le_trans h l)) h

pub ceil-at-most : (n : ℕ) (x : Float) → n ≤ 16777216 → AtMost n x → AtMost n (ceil_of x)
ceil-at-most n nan l h = h
ceil-at-most n (inf s) l h = h
ceil-at-most n (fin false m e) l h = whole-most ((m * up e + (down e - 1)) / down e) n (ceiling-most n (m * up e) (down e) (down_pos e) h) l
ceil-at-most n (fin true m e) l h = at-most-neg n (of_int binary32 (pos (m * up e / down e))) (whole-most (m * up e / down e) n (part-most n (m * up e) (down e) (down_pos e) h) l)
