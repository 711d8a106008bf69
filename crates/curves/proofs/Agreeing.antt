-- `Steps` beside W3C's: it is jump-start with the flag set, and jump-end exactly where the rounded product is whole. Assumes nothing.
use Rattle.std.proofs.Common.{◌≡◌, ℕ, suc, ◌+◌, ◌-◌, ◌*◌, ◌/◌, ◌%◌, ◌^◌, ◌<◌, ◌≤◌, min, max, Bool, true, false, cond, T, ℤ, sym, refl, ap, ◌∙◌, true≢false, le_trans, le_of_eq, le_refl, lt_of_lt_of_le, mul-le-mul_right, mul_assoc, mul_comm, div-lt_iff_lt-mul, mul-lt-mul_of_pos_right, mul-pos, div-add-mod', div-mul-le_self, le_of_mul-le-mul_right, add-one, arith, lit<, lit≤, pow_pos, ltb-false, eqb-true}
use mathlib.Core.Path.{subst⁻¹}
use mathlib.Core.Bool.{false≢true}
use native.Mathlib.Nat.{min-eq_left, zero-div}
use borrow.Author.Tests.{eqb-false}
use lib.Ieee.{Float, nan, inf, fin, binary32, unlike, up, down, round, lt, le, eq, is_nan, mul, of_bits}
use lib.Ieee.Fits.{down_pos}
use lib.Ieee.Exact.{HasValue, round_exact}
use lib.Ieee.Order.{round_mono}
use lib.Ieee.Scale.{grid, round_val, round_under}
use lib.Ieee.Positive.{num, den, den_pos, positive_of_value, values_of_le}
use Rattle.math.specs.Rounded.{◌⊗◌, ◌⊘◌, whole_f, zero_f, one_f}
use Rattle.math.specs.Range.{clamp01_of, Within, AtMost}
use Rattle.math.specs.Whole.{ceil_of, Is}
use Rattle.math.proofs.Ceiling.{up_more, up_same, part-most, ceiling-most}
use Rattle.math.proofs.Fitting.{rounds-none}
use Rattle.math.proofs.Order.{times_none, lt-not-eq, le_of_not_lt, lt-le-chain, le-lt-chain}
use Rattle.math.proofs.Upward.{Up, up_none}
use Rattle.math.proofs.Sizes.{at-most-finite}
use Rattle.math.proofs.Zeros.{none_equal}
use Rattle.math.proofs.Ranges.{clamp-stays, within-at-most}
use Rattle.curves.specs.declared.jumps.Position.TheVariants.{JumpStart, JumpEnd}
use Rattle.curves.specs.Stairs.{stairs_of, is_whole}
use Rattle.curves.specs.Jumps.{product_of, step_of, jump_of}
use Rattle.curves.specs.Rising.{StepsJumpStart, StepsOnJumpEnd}
use Rattle.curves.proofs.Products.{count-is, product, product-most}
use Rattle.curves.proofs.Quotients.{quotient, step-within}
use Rattle.curves.proofs.Rising.{zero-step}

-- a value of 18 binary places
abbrev place : ℕ → Float
place i = round binary32 false i 262144

place_is : (i : ℕ) → i < 16777216 → HasValue (place i) false i 262144
place_is i h = round_exact binary32 false i 262144 i 131 (lit< tt) h (lt_of_lt_of_le (mul-lt-mul_of_pos_right h (pow_pos 131)) (lit≤ tt)) (ap (λ (n : ℕ). i * n) (two-parts) ∙ sym (mul_assoc i (2 ^ 131) 262144))
  where
    two-parts : ◌≡◌ {A = ℕ} (2 ^ 149) (2 ^ 131 * 262144)
    two-parts = refl

place-number : (i : ℕ) → i < 16777216 → is_nan (place i) ≡ false
place-number i h = go (place i) (place_is i h)
  where
    go : (x : Float) → HasValue x false i 262144 → is_nan x ≡ false
    go nan v = absurd v
    go (inf s) v = absurd v
    go (fin s m e) v = unfold is_nan in refl

next_place : (i : ℕ) → i < 16777214 → T (lt (place (i + 1)) (place (i + 2)))
next_place i h = go (lt (place (i + 1)) (place (i + 2))) refl
  where
    v : HasValue (place (i + 1)) false (i + 1) 262144
    v = place_is (i + 1) (omega arith)

    w : HasValue (place (i + 2)) false (i + 2) 262144
    w = place_is (i + 2) (omega arith)

    crossed : (i + 2) * 262144 ≤ (i + 1) * 262144 → ⊥
    crossed h = omega arith

    go : (b : Bool) → lt (place (i + 1)) (place (i + 2)) ≡ b → T b
    go true e = tt
    go false e =
        absurd
        (crossed
        (values_of_le (place (i + 2)) (place (i + 1)) (i + 2) 262144 (i + 1) 262144 (positive_of_value (place (i + 2)) (i + 2) 262144 w (omega arith)) (positive_of_value (place (i + 1)) (i + 1) 262144 v (omega arith)) w v
        (le_of_not_lt (place (i + 1)) (place (i + 2)) (place-number (i + 1) (omega arith)) (place-number (i + 2) (omega arith)) e)))

-- up to 65,536 steps the values of two steps differ: two values of 18 binary places lie between them
apart : (k n : ℕ) → 0 < n → n ≤ 65536 → k < n → T (lt (round binary32 false k n) (round binary32 false (k + 1) n))
apart k n N l h =
    let i = k * 262144 / n in
    let low : i * n ≤ k * 262144 = div-mul-le_self (k * 262144) n in
    let high : k * 262144 < suc i * n = (div-lt_iff_lt-mul N).0 (le_refl (suc i)) in
    let top : (i + 2) * n ≤ (k + 1) * 262144 = above (i * n) ((i + 2) * n) k n (two-more i n) low l in
    let few : i + 2 ≤ 262144 = le_of_mul-le-mul_right (le_trans top (le_trans (mul-le-mul_right 262144 (one_more k n h)) (le_of_eq (mul_comm n 262144)))) N in
    lt-le-chain (round binary32 false k n) (place (i + 2)) (round binary32 false (k + 1) n)
    (le-lt-chain (round binary32 false k n) (place (i + 1)) (place (i + 2)) (round_mono binary32 k n (i + 1) 262144 N (lit< tt) (under k ((i + 1) * n) (suc i * n) high (ap (λ (j : ℕ). j * n) (add-one i)))) (next_place i (omega arith)))
    (round_mono binary32 (i + 2) 262144 (k + 1) n (lit< tt) N top)
  where
    two-more : (i n : ℕ) → (i + 2) * n ≡ i * n + 2 * n
    two-more i n = omega arith

    above : (a b k n : ℕ) → b ≡ a + 2 * n → a ≤ k * 262144 → n ≤ 65536 → b ≤ (k + 1) * 262144
    above a b k n e h l = omega arith

    one_more : (k n : ℕ) → k < n → k + 1 ≤ n
    one_more k n h = omega arith

    under : (k a b : ℕ) → k * 262144 < b → a ≡ b → k * 262144 ≤ a
    under k a b h e = omega arith

-- a product of two floats with their signs clear has its sign clear
signed : (t c : Float) (n : ℕ) → lt zero_f t ≡ true → T (le t one_f) → Is c n → AtMost n (t ⊗ c) → (g : ℕ) × HasValue (t ⊗ c) false g (2 ^ 149)
unfolding mul lt le eq of_bits
signed nan c n p q v h = absurd (false≢true p)
signed (inf true) c n p q v h = absurd (false≢true p)
signed (inf false) c n p q v h = absurd q
signed (fin true m e) c n p q v h = absurd (false≢true p)
signed (fin false m e) nan n p q v h = absurd v
signed (fin false m e) (inf s) n p q v h = absurd v
signed (fin false m e) (fin true o d) n p q v h = absurd (true≢false v.0)
signed (fin false m e) (fin false o d) n p q v h =
    let a = m * up e * (o * up d) in
    let b = down e * down d in
    (grid binary32 a b, round_val binary32 a b (round_under binary32 a b (at-most-finite n (round binary32 false a b) h)))

-- the least whole number that is not below a fraction from 0 up
abbrev raised : Float → ℕ
raised y = (num y + (den y - 1)) / den y

-- what is from 0 up and not above 0 has no size
not-above-none : (s : Bool) (m : ℕ) (e : ℤ) → Up (fin s m e) → lt zero_f (fin s m e) ≡ false → m * up e ≡ 0
unfolding lt of_bits
not-above-none true m e u h = up_none m e u
not-above-none false m e u h = none (m * up e) (down e) (ltb-false (0 * 1 * down e) (m * up e * 1) h)
  where
    none : (a d : ℕ) → a * 1 ≤ 0 * 1 * d → a ≡ 0
    none a d h = omega arith

zero-product : (s : Bool) (m : ℕ) (e : ℤ) → m * up e ≡ 0 → (c : Float) (n : ℕ) → Is c n → num (fin s m e ⊗ c) ≡ 0
unfolding mul
zero-product s m e z nan n v = absurd v
zero-product s m e z (inf t) n v = absurd v
zero-product s m e z (fin true o d) n v = absurd (true≢false v.0)
zero-product s m e z (fin false o d) n v = ap num (rounds-none binary32 (unlike s false) (m * up e * (o * up d)) (down e * down d) (times_none (m * up e) (o * up d) z) (mul-pos (down_pos e) (down_pos d)))

-- t is from 0 to 1, and n, from 1 on, what `Steps` counts
module _ (t : Float) (w : Within t) (n : ℕ) (N : 0 < n) (l : n ≤ 65536) where
  abbrev y : Float
  y = product_of t n

  raised-most : raised y ≤ n
  raised-most = ceiling-most n (num y) (den y) (den_pos y) (product n l t w).most

  floor-most : num y / den y ≤ n
  floor-most = part-most n (num y) (den y) (den_pos y) (product n l t w).most

  split : num y / den y * den y + num y % den y ≡ num y
  split = div-add-mod' (num y) (den y)

  raised-same : is_whole y ≡ true → raised y ≡ num y / den y
  raised-same h =
      let z : num y % den y ≡ 0 = eqb-true (num y % den y) 0 (sym (product n l t w).whole ∙ h) in
      up_same (num y) (den y) (den_pos y) (omega (arith, split, z))

  raised-more : is_whole y ≡ false → raised y ≡ num y / den y + 1
  raised-more h =
      let z : (num y % den y ≡ 0) → ⊥ = eqb-false (num y % den y) 0 (sym (product n l t w).whole ∙ h) in
      up_more (num y) (den y) (den_pos y) (omega (arith, split, z))

  -- what `Steps` answers, of the product's fraction
  above : lt zero_f t ≡ true → cond (eq t zero_f) zero_f (stairs_of t (whole_f n)) ≡ whole_f (raised y) ⊘ whole_f n
  above p =
      let u = signed t (whole_f n) n p w.1 (count-is n l) (product-most n l t w) in
      ap (λ (b : Bool). cond b zero_f (stairs_of t (whole_f n))) (lt-not-eq zero_f t (subst⁻¹ T p tt))
      ∙ ap (λ (x : Float). clamp01_of (x ⊘ whole_f n)) (ceiling (product_of t n) u.0 (2 ^ 149) u.1)
      ∙ clamp-stays (whole_f (raised y) ⊘ whole_f n) (step-within n N (omega (arith, l)) (raised y) raised-most)
    where
      ceiling : (x : Float) (g k : ℕ) → HasValue x false g k → ceil_of x ≡ whole_f (raised x)
      ceiling nan g k v = absurd v
      ceiling (inf s) g k v = absurd v
      ceiling (fin true m e) g k v = absurd (true≢false v.0)
      ceiling (fin false m e) g k v = refl

  at_zero : lt zero_f t ≡ false → cond (eq t zero_f) zero_f (stairs_of t (whole_f n)) ≡ whole_f (raised y) ⊘ whole_f n
  at_zero p = go t refl (within-at-most t w) w.0 p
    where
      go : (x : Float) → t ≡ x → AtMost 1 x → Up x → lt zero_f x ≡ false → cond (eq t zero_f) zero_f (stairs_of t (whole_f n)) ≡ whole_f (raised y) ⊘ whole_f n
      go nan e h u k = absurd h
      go (inf s) e h u k = absurd h
      go (fin s m f) e h u k =
          let z : m * up f ≡ 0 = not-above-none s m f u k in
          let none : num y ≡ 0 = ap (λ (x : Float). num (x ⊗ whole_f n)) e ∙ zero-product s m f z (whole_f n) n (count-is n l) in
          let flat : raised y ≡ 0 = up_same (num y) (den y) (den_pos y) (omega (arith, none)) ∙ ap (λ (a : ℕ). a / den y) none ∙ zero-div (den y) in
          ap (λ (b : Bool). cond b zero_f (stairs_of t (whole_f n))) (ap (λ (x : Float). eq x zero_f) e ∙ none_equal s m f z)
          ∙ sym (ap (λ (i : ℕ). whole_f i ⊘ whole_f n) flat ∙ zero-step JumpEnd n N l)

  steps-are : cond (eq t zero_f) zero_f (stairs_of t (whole_f n)) ≡ whole_f (raised y) ⊘ whole_f n
  steps-are = go (lt zero_f t) refl
    where
      go : (b : Bool) → lt zero_f t ≡ b → cond (eq t zero_f) zero_f (stairs_of t (whole_f n)) ≡ whole_f (raised y) ⊘ whole_f n
      go true p = above p
      go false p = at_zero p

  start-step : raised y ≡ step_of JumpStart true t n
  start-step = go (is_whole y) refl
    where
      go : (b : Bool) → is_whole y ≡ b → raised y ≡ step_of JumpStart true t n
      go true h = raised-same h ∙ rw ((product n l t w).floor, h) (stay (num y / den y) floor-most)
        where
          stay : (k : ℕ) → k ≤ n → k ≡ min (k + 1 - 1) n
          stay k h = omega (arith, h)
      go false h = raised-more h ∙ rw ((product n l t w).floor, h) (stay (num y / den y) (omega (arith, raised-more h, raised-most)))
        where
          stay : (k : ℕ) → k + 1 ≤ n → k + 1 ≡ min (k + 1) n
          stay k h = omega (arith, h)

  end_step : step_of JumpEnd false t n ≡ num y / den y
  end_step = rw (product n l t w).floor (min-eq_left floor-most)

  apart_from : is_whole y ≡ false → eq (whole_f (raised y) ⊘ whole_f n) (whole_f (num y / den y) ⊘ whole_f n) ≡ false
  apart_from h =
      let k = num y / den y in
      let more : k + 1 ≤ n = omega (arith, raised-more h, raised-most) in
      rw (raised-more h, quotient n N (omega (arith, l)) (k + 1) more, quotient n N (omega (arith, l)) k floor-most)
      (lt-not-eq (round binary32 false k n) (round binary32 false (k + 1) n) (apart k n N l (omega (arith, more))))

pub steps-jump-start : StepsJumpStart
unfolding jump_of
steps-jump-start t n w l =
    let m = max n 1 in
    steps-are t w m (omega arith) (omega (arith, l)) ∙ ap (λ (k : ℕ). whole_f k ⊘ whole_f m) (start-step t w m (omega arith) (omega (arith, l)))

pub steps-on-jump-end : StepsOnJumpEnd
unfolding jump_of
steps-on-jump-end t n w l =
    let m = max n 1 in
    let s = steps-are t w m (omega arith) (omega (arith, l)) in
    let e = end_step t w m (omega arith) (omega (arith, l)) in (
      (λ h. s ∙ ap (λ (k : ℕ). whole_f k ⊘ whole_f m) (raised-same t w m (omega arith) (omega (arith, l)) h ∙ sym e)),
      (λ h. rw (s, e) (apart_from t w m (omega arith) (omega (arith, l)) h)),
    )
