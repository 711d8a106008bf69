-- Steps and W3C's jump-end agree exactly where the rounded product t·n is whole. Assumes nothing.
use Rattle.std.proofs.Common.{◌≡◌, ℕ, suc, ◌+◌, ◌-◌, ◌*◌, ◌/◌, ◌%◌, ◌^◌, ◌<◌, ◌≤◌, max, Bool, true, false, cond, T, eqb, ℤ, pos, sym, refl, ap, ◌∙◌, true≢false, le_trans, le_of_eq, le_refl, lt_of_lt_of_le, mul-le-mul_right, mul_assoc, mul_comm, div-lt_iff_lt-mul, mul-lt-mul_of_pos_right, mul-pos, one-mul, div-add-mod', div-mul-le_self, le_of_mul-le-mul_right, add-one, arith, lit<, lit≤, lt→ltb, pow_pos, ltb-false, eqb-true}
use mathlib.Core.Path.{subst⁻¹}
use mathlib.Core.Bool.{false≢true}
use borrow.Author.Tests.{eqb-false}
use lib.Ieee.{Float, nan, inf, fin, binary32, unlike, up, down, round, lt, le, eq, is_nan, mul, neg, of_int, of_bits}
use lib.Ieee.Fits.{down_pos}
use lib.Ieee.Exact.{HasValue, round_exact}
use lib.Ieee.Order.{round_mono}
use lib.Ieee.Scale.{grid, round_val, round_under}
use lib.Ieee.Positive.{positive_of_value, values_of_le}
use Rattle.math.specs.Rounded.{◌⊗◌, ◌⊘◌, zero_f, one_f}
use Rattle.math.specs.Range.{clamp01_of, Within, AtMost}
use Rattle.math.specs.Whole.{ceil_of, Is}
use Rattle.math.proofs.Ceiling.{up_more, up_same, part-most, ceiling-most}
use Rattle.math.proofs.Fitting.{rounds-none}
use Rattle.math.proofs.Order.{times_none, lt-le, eq_self, lt-not-eq, le-numbers, le_of_not_lt, lt-le-chain, le-lt-chain}
use Rattle.math.proofs.Wholes.{whole_is, zero_is, lt-is, div_is}
use Rattle.math.proofs.Upward.{Up, up_none, round_up}
use Rattle.math.proofs.Sizes.{is-at-most, at-most-finite, round-at-most, mul-at-most}
use Rattle.math.proofs.Zeros.{none_equal, unlike-clear, either-zero-over}
use Rattle.math.proofs.Ranges.{one-held, clamp-stays, at-most-within, within-at-most}
use Rattle.curves.specs.Stairs.{count_of, stairs_of, steps_of, floor_of, jump_end_of, is_whole, StepsJumpEnd}

-- a value of 18 binary places
abbrev place : ℕ → Float
place i = round binary32 false i 262144

place_is : (i : ℕ) → i < 16777216 → HasValue (place i) false i 262144
place_is i h = round_exact binary32 false i 262144 i 131 (lit< tt) h (lt_of_lt_of_le (mul-lt-mul_of_pos_right h (pow_pos 131)) (lit≤ tt)) (ap (λ (n : ℕ). i * n) (two-parts) ∙ sym (mul_assoc i (2 ^ 131) 262144))
  where
    two-parts : ◌≡◌ {A = ℕ} (2 ^ 149) (2 ^ 131 * 262144)
    two-parts = refl

place-number : (i : ℕ) → i < 16777216 → is_nan (place i) ≡ false
place-number i h = go (place i) (place_is i h)
  where
    go : (x : Float) → HasValue x false i 262144 → is_nan x ≡ false
    go nan v = absurd v
    go (inf s) v = absurd v
    go (fin s m e) v = unfold is_nan in refl

next_place : (i : ℕ) → i < 16777214 → T (lt (place (i + 1)) (place (i + 2)))
next_place i h = go (lt (place (i + 1)) (place (i + 2))) refl
  where
    v : HasValue (place (i + 1)) false (i + 1) 262144
    v = place_is (i + 1) (omega arith)

    w : HasValue (place (i + 2)) false (i + 2) 262144
    w = place_is (i + 2) (omega arith)

    crossed : (i + 2) * 262144 ≤ (i + 1) * 262144 → ⊥
    crossed h = omega arith

    go : (b : Bool) → lt (place (i + 1)) (place (i + 2)) ≡ b → T b
    go true e = tt
    go false e =
        absurd
        (crossed
        (values_of_le (place (i + 2)) (place (i + 1)) (i + 2) 262144 (i + 1) 262144 (positive_of_value (place (i + 2)) (i + 2) 262144 w (omega arith)) (positive_of_value (place (i + 1)) (i + 1) 262144 v (omega arith)) w v
        (le_of_not_lt (place (i + 1)) (place (i + 2)) (place-number (i + 1) (omega arith)) (place-number (i + 2) (omega arith)) e)))

-- up to 65,536 steps the values of two steps differ: two values of 18 binary places lie between them
apart : (k n : ℕ) → 0 < n → n ≤ 65536 → k < n → T (lt (round binary32 false k n) (round binary32 false (k + 1) n))
apart k n N l h =
    let i = k * 262144 / n in
    let low : i * n ≤ k * 262144 = div-mul-le_self (k * 262144) n in
    let high : k * 262144 < suc i * n = (div-lt_iff_lt-mul N).0 (le_refl (suc i)) in
    let top : (i + 2) * n ≤ (k + 1) * 262144 = above (i * n) ((i + 2) * n) k n (two-more i n) low l in
    let few : i + 2 ≤ 262144 = le_of_mul-le-mul_right (le_trans top (le_trans (mul-le-mul_right 262144 (one_more k n h)) (le_of_eq (mul_comm n 262144)))) N in
    lt-le-chain (round binary32 false k n) (place (i + 2)) (round binary32 false (k + 1) n)
    (le-lt-chain (round binary32 false k n) (place (i + 1)) (place (i + 2)) (round_mono binary32 k n (i + 1) 262144 N (lit< tt) (under k ((i + 1) * n) (suc i * n) high (ap (λ (j : ℕ). j * n) (add-one i)))) (next_place i (omega arith)))
    (round_mono binary32 (i + 2) 262144 (k + 1) n (lit< tt) N top)
  where
    two-more : (i n : ℕ) → (i + 2) * n ≡ i * n + 2 * n
    two-more i n = omega arith

    above : (a b k n : ℕ) → b ≡ a + 2 * n → a ≤ k * 262144 → n ≤ 65536 → b ≤ (k + 1) * 262144
    above a b k n e h l = omega arith

    one_more : (k n : ℕ) → k < n → k + 1 ≤ n
    one_more k n h = omega arith

    under : (k a b : ℕ) → k * 262144 < b → a ≡ b → k * 262144 ≤ a
    under k a b h e = omega arith

-- n steps, at a product y from 0 to n
module _ (n : ℕ) (N : 0 < n) (l : n ≤ 65536) (c : Float) (v : Is c n) where
  quotient : (w : ℕ) → w ≤ n → of_int binary32 (pos w) ⊘ c ≡ round binary32 false w n
  quotient w h = div_is binary32 (of_int binary32 (pos w)) c w n (whole_is binary32 w (omega arith)) v N

  step-within : (w : ℕ) → w ≤ n → Within (round binary32 false w n)
  step-within w h = at-most-within (round binary32 false w n) (round_up binary32 w n N) (round-at-most binary32 1 one-held false w n N (omega arith))

  clamped-step : (w : ℕ) → w ≤ n → clamp01_of (of_int binary32 (pos w) ⊘ c) ≡ round binary32 false w n
  clamped-step w h = ap clamp01_of (quotient w h) ∙ clamp-stays (round binary32 false w n) (step-within w h)

  number : (w : ℕ) → w ≤ n → is_nan (round binary32 false w n) ≡ false
  number w h = (le-numbers zero_f (round binary32 false w n) (step-within w h).0).1

  -- v is the ceiling of a fraction and w its whole part
  same_step : (v w : ℕ) → v ≤ n → w ≤ n → v ≡ w → eq (clamp01_of (of_int binary32 (pos v) ⊘ c)) (of_int binary32 (pos w) ⊘ c) ≡ true
  same_step v w h k e =
      ap (λ (x : Float). eq x (of_int binary32 (pos w) ⊘ c)) (clamped-step v h) ∙ ap (λ (x : Float). eq (round binary32 false v n) x) (quotient w k)
      ∙ ap (λ (i : ℕ). eq (round binary32 false i n) (round binary32 false w n)) e ∙ eq_self (round binary32 false w n) (number w k)

  other_step : (v w : ℕ) → v ≤ n → w ≤ n → v ≡ w + 1 → eq (clamp01_of (of_int binary32 (pos v) ⊘ c)) (of_int binary32 (pos w) ⊘ c) ≡ false
  other_step v w h k e =
      ap (λ (x : Float). eq x (of_int binary32 (pos w) ⊘ c)) (clamped-step v h) ∙ ap (λ (x : Float). eq (round binary32 false v n) x) (quotient w k)
      ∙ ap (λ (i : ℕ). eq (round binary32 false i n) (round binary32 false w n)) e ∙ lt-not-eq (round binary32 false w n) (round binary32 false (w + 1) n) (apart w n N l (omega arith))

  -- whether they are the same
  plain : (a d : ℕ) → 0 < d → a ≤ n * d → eq (clamp01_of (of_int binary32 (pos ((a + (d - 1)) / d)) ⊘ c)) (of_int binary32 (pos (a / d)) ⊘ c) ≡ eqb (a % d) 0
  plain a d D h = go (eqb (a % d) 0) refl
    where
      s : a / d * d + a % d ≡ a
      s = div-add-mod' a d

      top : (a + (d - 1)) / d ≤ n
      top = ceiling-most n a d D h

      low : a / d ≤ n
      low = part-most n a d D h

      go : (b : Bool) → eqb (a % d) 0 ≡ b → eq (clamp01_of (of_int binary32 (pos ((a + (d - 1)) / d)) ⊘ c)) (of_int binary32 (pos (a / d)) ⊘ c) ≡ b
      go true e = same_step ((a + (d - 1)) / d) (a / d) top low (up_same a d D (let z : a % d ≡ 0 = eqb-true (a % d) 0 e in omega (arith, s)))
      go false e = other_step ((a + (d - 1)) / d) (a / d) top low (up_more a d D (let z : (a % d ≡ 0) → ⊥ = eqb-false (a % d) 0 e in omega (arith, s)))

  product : (y : Float) (g k : ℕ) → HasValue y false g k → AtMost n y → eq (clamp01_of (ceil_of y ⊘ c)) (floor_of y ⊘ c) ≡ is_whole y
  product nan g k u h = absurd h
  product (inf s) g k u h = absurd h
  product (fin true m e) g k u h = absurd (true≢false u.0)
  product (fin false m e) g k u h = plain (m * up e) (down e) (down_pos e) h

-- a product of two floats with their signs clear has its sign clear
signed : (t c : Float) (n : ℕ) → lt zero_f t ≡ true → T (le t one_f) → Is c n → AtMost n (t ⊗ c) → (g : ℕ) × HasValue (t ⊗ c) false g (2 ^ 149)
unfolding mul lt le eq of_bits
signed nan c n p q v h = absurd (false≢true p)
signed (inf true) c n p q v h = absurd (false≢true p)
signed (inf false) c n p q v h = absurd q
signed (fin true m e) c n p q v h = absurd (false≢true p)
signed (fin false m e) nan n p q v h = absurd v
signed (fin false m e) (inf s) n p q v h = absurd v
signed (fin false m e) (fin true o d) n p q v h = absurd (true≢false v.0)
signed (fin false m e) (fin false o d) n p q v h =
    let a = m * up e * (o * up d) in
    let b = down e * down d in
    (grid binary32 a b, round_val binary32 a b (round_under binary32 a b (at-most-finite n (round binary32 false a b) h)))

above_zero : (t : Float) (n : ℕ) → lt zero_f t ≡ true → T (le t one_f) → n ≤ 65536 → eq (steps_of t n) (jump_end_of t n) ≡ is_whole (t ⊗ count_of n)
above_zero t n p q l =
    let N = max n 1 in
    let c = count_of n in
    let v : Is c N = whole_is binary32 N (omega arith) in
    let w : Within t = (lt-le zero_f t (subst⁻¹ T p tt), q) in
    let h : AtMost N (t ⊗ c) = mul-at-most binary32 N v 1 N t c (le_of_eq (one-mul N)) (within-at-most t w) (is-at-most c N N v (le_refl N)) in
    let u = signed t c N p q v h in
    ap (λ (b : Bool). eq (cond b zero_f (stairs_of t c)) (jump_end_of t n)) (lt-not-eq zero_f t (subst⁻¹ T p tt)) ∙ product N (omega arith) (omega arith) c v (t ⊗ c) u.0 (2 ^ 149) u.1 h

-- a zero, with its sign
abbrev zero-at : Bool → Float
zero-at s = fin s 0 (pos 0)

zero-floor : (s : Bool) → floor_of (zero-at s) ≡ zero-at s
unfolding of_int neg
zero-floor false = refl
zero-floor true = refl

module _ (s : Bool) (m : ℕ) (e : ℤ) (z : m * up e ≡ 0) where
  zero-product : (c : Float) (n : ℕ) → Is c n → fin s m e ⊗ c ≡ zero-at s
  unfolding mul
  zero-product nan n v = absurd v
  zero-product (inf t) n v = absurd v
  zero-product (fin true o d) n v = absurd (true≢false v.0)
  zero-product (fin false o d) n v = rounds-none binary32 (unlike s false) (m * up e * (o * up d)) (down e * down d) (times_none (m * up e) (o * up d) z) (mul-pos (down_pos e) (down_pos d)) ∙ ap zero-at (unlike-clear s)

zero-quotient : (s : Bool) (c : Float) (n : ℕ) → 0 < n → Is c n → zero-at s ⊘ c ≡ zero-at s
zero-quotient s c n N v = either-zero-over s c (at-most-finite n c (is-at-most c n n v (le_refl n))) (subst⁻¹ T (lt-is zero_f c 0 n zero_is v) (lt→ltb 0 n N))

zeros-agree : (s : Bool) → eq zero_f (zero-at s) ≡ is_whole (zero-at s)
unfolding eq of_bits
zeros-agree false = refl
zeros-agree true = refl

at_zero : (s : Bool) (m : ℕ) (e : ℤ) (n : ℕ) → m * up e ≡ 0 → n ≤ 65536 → eq (steps_of (fin s m e) n) (jump_end_of (fin s m e) n) ≡ is_whole (fin s m e ⊗ count_of n)
at_zero s m e n z l =
    let N = max n 1 in
    let c = count_of n in
    let v : Is c N = whole_is binary32 N (omega arith) in
    let p : fin s m e ⊗ c ≡ zero-at s = zero-product s m e z c N v in
    ap (λ (b : Bool). eq (cond b zero_f (stairs_of (fin s m e) c)) (jump_end_of (fin s m e) n)) (none_equal s m e z)
    ∙ ap (λ (y : Float). eq zero_f (floor_of y ⊘ c)) p
    ∙ ap (λ (y : Float). eq zero_f (y ⊘ c)) (zero-floor s)
    ∙ ap (eq zero_f) (zero-quotient s c N (omega arith) v)
    ∙ zeros-agree s
    ∙ ap is_whole (sym p)

-- what is from 0 up and not above 0 has no size
not-above-none : (s : Bool) (m : ℕ) (e : ℤ) → Up (fin s m e) → lt zero_f (fin s m e) ≡ false → m * up e ≡ 0
unfolding lt of_bits
not-above-none true m e u h = up_none m e u
not-above-none false m e u h = none (m * up e) (down e) (ltb-false (0 * 1 * down e) (m * up e * 1) h)
  where
    none : (a d : ℕ) → a * 1 ≤ 0 * 1 * d → a ≡ 0
    none a d h = omega arith

pub steps-jump-end : StepsJumpEnd
steps-jump-end t n w l = go (lt zero_f t) refl
  where
    finite : (t : Float) → AtMost 1 t → Up t → lt zero_f t ≡ false → eq (steps_of t n) (jump_end_of t n) ≡ is_whole (t ⊗ count_of n)
    finite nan h u k = absurd h
    finite (inf s) h u k = absurd h
    finite (fin s m e) h u k = at_zero s m e n (not-above-none s m e u k) l

    go : (b : Bool) → lt zero_f t ≡ b → eq (steps_of t n) (jump_end_of t n) ≡ is_whole (t ⊗ count_of n)
    go true p = above_zero t n p w.1 l
    go false p = finite t (within-at-most t w) w.0 p
