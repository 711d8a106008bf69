-- The rounded product of a progress and a number of steps is a fraction from 0 to that number, and grows with the progress. Assumes nothing.
use Rattle.std.proofs.Common.{◌≡◌, ℕ, ◌+◌, ◌*◌, ◌/◌, ◌%◌, ◌<◌, ◌≤◌, min, Bool, true, false, T, eqb, leb, ℤ, pos, sym, refl, ap, ◌∙◌, subst, true≢false, le_trans, le_of_eq, le_refl, mul-le-mul_right, mul-pos, one-mul, div-add-mod', le-div_iff_mul-le, zero-mul, mul-one, mul_right_comm, div-mul-le_self, le_of_mul-le-mul_right, mul-div_cancel, arith, le→leb, leb→le, eqb-true}
use mathlib.Core.Path.{subst⁻¹}
use native.Mathlib.Nat.{min-eq_left, mul-mod_left, zero-div, zero-mod}
use borrow.Author.Tests.{eqb-false}
use lib.Ieee.{Float, nan, inf, fin, binary32, up, down, round, mul, le, lt, eq, of_bits, to_unsigned, of_int}
use lib.Ieee.Fits.{down_pos}
use lib.Ieee.Order.{round_mono}
use lib.Ieee.Positive.{num, den, den_pos}
use Rattle.math.specs.Rounded.{◌⊗◌, whole_f, zero_f}
use Rattle.math.specs.Range.{is_finite, Within, AtMost}
use Rattle.math.specs.Whole.{whole_part_of, Is}
use Rattle.math.proofs.Ceiling.{part-most}
use Rattle.math.proofs.Fitting.{rounds-none}
use Rattle.math.proofs.Order.{times_none, le-sizes, le-chain}
use Rattle.math.proofs.Wholes.{whole_is, zero_is, le_is, fraction-le}
use Rattle.math.proofs.Upward.{Up, up_none, mul-up}
use Rattle.math.proofs.Sizes.{is-at-most, at-most-finite, mul-at-most}
use Rattle.math.proofs.Ranges.{within-at-most, within-finite}
use Rattle.curves.specs.Stairs.{is_whole}
use Rattle.curves.specs.Jumps.{product_of}

-- y is num y / den y, from 0 to n
pub record Fraction (n : ℕ) (y : Float) : Type 0 where
  pub most : num y ≤ n * den y
  pub floor : whole_part_of y ≡ num y / den y
  pub whole : is_whole y ≡ eqb (num y % den y) 0

part-uncapped : (n a d : ℕ) → 0 < d → a ≤ n * d → n ≤ 65536 → min (a / d) 4294967295 ≡ a / d
part-uncapped n a d D h l =
    let low : a / d ≤ n = part-most n a d D h in
    min-eq_left (omega (arith, low, l))

none-part : (a d : ℕ) → a ≡ 0 → 0 ≡ a / d
none-part a d z = sym (ap (λ (i : ℕ). i / d) z ∙ zero-div d)

pub fraction : (n : ℕ) (y : Float) → n ≤ 65536 → Up y → AtMost n y → Fraction n y
unfolding to_unsigned
fraction n nan l u h = absurd h
fraction n (inf s) l u h = absurd h
fraction n (fin true m e) l u h = record { most = h; floor = none-part (m * up e) (down e) (up_none m e u); whole = refl }
fraction n (fin false m e) l u h = record { most = h; floor = part-uncapped n (m * up e) (down e) (down_pos e) h l; whole = refl }

-- what is no more than its whole part is whole
whole_part : (a d : ℕ) → 0 < d → leb a (a / d * d) ≡ eqb (a % d) 0
whole_part a d D = go (leb a (a / d * d)) (eqb (a % d) 0) refl refl
  where
    s : a / d * d + a % d ≡ a
    s = div-add-mod' a d

    go : (x y : Bool) → leb a (a / d * d) ≡ x → eqb (a % d) 0 ≡ y → x ≡ y
    go true true p q = refl
    go false false p q = refl
    go true false p q =
        let z : (a % d ≡ 0) → ⊥ = eqb-false (a % d) 0 q in
        let l : a ≤ a / d * d = leb→le a (a / d * d) (subst⁻¹ T p tt) in
        absurd (omega (arith, s))
    go false true p q =
        let z : a % d ≡ 0 = eqb-true (a % d) 0 q in
        absurd (subst T p (le→leb a (a / d * d) (omega (arith, s))))

pub whole-tested : (n : ℕ) (y : Float) → n ≤ 65536 → Up y → AtMost n y → le y (whole_f (whole_part_of y)) ≡ is_whole y
unfolding to_unsigned
whole-tested n nan l u h = absurd h
whole-tested n (inf s) l u h = absurd h
whole-tested n (fin true m e) l u h = none (m * up e) (down e) (up_none m e u)
  where
    none : (a d : ℕ) → a ≡ 0 → le (fin true m e) (whole_f 0) ≡ eqb (a % d) 0
    none a d z =
        let below : le (fin true m e) (whole_f 0) ≡ true = unfold le lt eq of_int in le-sizes true false (m * up e * 1) (0 * 1 * down e) in
        below ∙ sym (ap (λ (i : ℕ). eqb (i % d) 0) z ∙ ap (λ (i : ℕ). eqb i 0) (zero-mod d))
whole-tested n (fin false m e) l u h =
    let a = m * up e in
    let d = down e in
    let low : a / d ≤ n = part-most n a d (down_pos e) h in
    ap (λ (i : ℕ). le (fin false m e) (whole_f i)) (part-uncapped n a d (down_pos e) h l)
    ∙ fraction-le (whole_f (a / d)) (a / d) m e (whole_is binary32 (a / d) (omega (arith, low, l)))
    ∙ whole_part a d (down_pos e)

-- the order of floats from 0 up is that of their fractions
cross : (x y : Float) → T (is_finite x) → T (is_finite y) → Up x → Up y → T (le x y) → num x * den y ≤ num y * den x
unfolding le lt eq
cross nan y p q u v h = absurd p
cross (inf s) y p q u v h = absurd p
cross (fin s m e) nan p q u v h = absurd q
cross (fin s m e) (inf r) p q u v h = absurd q
cross (fin true m e) (fin r n d) p q u v h = nothing (m * up e) (down d) (n * up d * down e) (up_none m e u)
  where
    nothing : (a d b : ℕ) → a ≡ 0 → a * d ≤ b
    nothing a d b z = let w : a * d ≡ 0 = times_none a d z in omega (arith, w)
cross (fin false m e) (fin true n d) p q u v h = below (m * up e * down d) (n * up d * down e) (leb→le (m * up e * down d + n * up d * down e) 0 (subst T (le-sizes false true (m * up e * down d) (n * up d * down e)) h))
  where
    below : (a b : ℕ) → a + b ≤ 0 → a ≤ b
    below a b k = omega (arith, k)
cross (fin false m e) (fin false n d) p q u v h = leb→le (m * up e * down d) (n * up d * down e) (subst T (le-sizes false false (m * up e * down d) (n * up d * down e)) h)

-- a whole number is its own whole part
pub of-whole : (y : Float) (k : ℕ) → Is y k → k ≤ 65536 → (whole_part_of y ≡ k) × (is_whole y ≡ true)
unfolding to_unsigned
of-whole nan k v l = absurd v
of-whole (inf s) k v l = absurd v
of-whole (fin true m e) k v l = absurd (true≢false v.0)
of-whole (fin false m e) k v l =
    let a : m * up e ≡ k * down e = sym (mul-one (m * up e)) ∙ v.1 in
    let q : m * up e / down e ≡ k = ap (λ (i : ℕ). i / down e) a ∙ mul-div_cancel k (down_pos e) in
    let r : m * up e % down e ≡ 0 = ap (λ (i : ℕ). i % down e) a ∙ mul-mod_left k (down e) in
    (ap (λ (i : ℕ). min i 4294967295) q ∙ min-eq_left (omega (arith, l)), ap (λ (i : ℕ). eqb i 0) r)

-- a product with a factor from 0 up grows with the other
none-le : (s : Bool) (a c : ℕ) → a ≡ 0 → 0 < c → T (le (round binary32 s a c) zero_f)
none-le s a c h C = subst⁻¹ (λ (z : Float). T (le z zero_f)) (rounds-none binary32 s a c h C) (go s)
  where
    go : (s : Bool) → T (le (fin s 0 (pos 0)) zero_f)
    go true = unfold le lt eq of_bits in tt
    go false = unfold le lt eq of_bits in tt

module _ (o : ℕ) (d : ℤ) where
  times-le : (x y : Float) → T (is_finite x) → T (is_finite y) → Up x → Up y → T (le x y) → Up (y ⊗ fin false o d) → T (le (x ⊗ fin false o d) (y ⊗ fin false o d))
  unfolding mul
  times-le nan y p q u v h z = absurd p
  times-le (inf s) y p q u v h z = absurd p
  times-le (fin s m e) nan p q u v h z = absurd q
  times-le (fin s m e) (inf r) p q u v h z = absurd q
  times-le (fin true m e) (fin r k g) p q u v h z =
      le-chain (fin true m e ⊗ fin false o d) zero_f (fin r k g ⊗ fin false o d) (none-le true (m * up e * (o * up d)) (down e * down d) (times_none (m * up e) (o * up d) (up_none m e u)) (mul-pos (down_pos e) (down_pos d))) z
  times-le (fin false m e) (fin true k g) p q u v h z =
      let c : m * up e * down g ≤ k * up g * down e = cross (fin false m e) (fin true k g) p q u v h in
      let w : k * up g * down e ≡ 0 = times_none (k * up g) (down e) (up_none k g v) in
      let x : m * up e ≡ 0 = no-factor (m * up e) (down g) (down_pos g) (omega (arith, c, w)) in
      le-chain (fin false m e ⊗ fin false o d) zero_f (fin true k g ⊗ fin false o d) (none-le false (m * up e * (o * up d)) (down e * down d) (times_none (m * up e) (o * up d) x) (mul-pos (down_pos e) (down_pos d))) z
    where
      no-factor : (a b : ℕ) → 0 < b → a * b ≡ 0 → a ≡ 0
      no-factor a b B z =
          let few : a ≤ 0 = le_of_mul-le-mul_right {m = a} {n = 0} {k = b} (le_of_eq (z ∙ sym (zero-mul b))) B in
          omega (arith, few)
  times-le (fin false m e) (fin false k g) p q u v h z =
      round_mono binary32 (m * up e * (o * up d)) (down e * down d) (k * up g * (o * up d)) (down g * down d) (mul-pos (down_pos e) (down_pos d)) (mul-pos (down_pos g) (down_pos d))
      (both (m * up e) (down g) (k * up g) (down e) (o * up d) (down d) (cross (fin false m e) (fin false k g) p q u v h))
    where
      both : (a g b e c d : ℕ) → a * g ≤ b * e → a * c * (g * d) ≤ b * c * (e * d)
      both a g b e c d h = omega (arith, mul-le-mul_right (c * d) h)

-- two fractions, one at most the other: their whole parts, and whether they are whole
pub floors : (a d b c : ℕ) → 0 < d → 0 < c → a * c ≤ b * d → a / d ≤ b / c
floors a d b c D C h =
    let low : a / d * d ≤ a = div-mul-le_self a d in
    (le-div_iff_mul-le C).1 (le_of_mul-le-mul_right {m = a / d * c} {n = b} {k = d} (le_trans (le_of_eq (mul_right_comm (a / d) c d)) (le_trans (mul-le-mul_right c low) h)) D)

pub wholes : (a d b c : ℕ) → 0 < d → 0 < c → a * c ≤ b * d → a / d ≡ b / c → b % c ≡ 0 → a % d ≡ 0
wholes a d b c D C h e z =
    let s : a / d * d + a % d ≡ a = div-add-mod' a d in
    let r : b / c * c + b % c ≡ b = div-add-mod' b c in
    let top : a ≤ a / d * d = le_of_mul-le-mul_right {m = a} {n = a / d * d} {k = c} (le_trans h (le_of_eq (level (a / d) (b / c) b c d e (omega (arith, r, z))))) C in
    omega (arith, s, top)
  where
    level : (j k b c d : ℕ) → j ≡ k → b ≡ k * c → b * d ≡ j * d * c
    level j k b c d e q = rw (e, q) (mul_right_comm k c d)

module _ (n : ℕ) (l : n ≤ 65536) where
  pub count-is : Is (whole_f n) n
  count-is = whole_is binary32 n (omega (arith, l))

  count_most : AtMost n (whole_f n)
  count_most = is-at-most (whole_f n) n n count-is (le_refl n)

  count-up : Up (whole_f n)
  count-up = subst⁻¹ T (le_is zero_f (whole_f n) 0 n zero_is count-is) (le→leb 0 n (omega arith))

  pub product-most : (t : Float) → Within t → AtMost n (product_of t n)
  product-most t w = mul-at-most binary32 n count-is 1 n t (whole_f n) (le_of_eq (one-mul n)) (within-at-most t w) count_most

  pub product-up : (t : Float) → Within t → Up (product_of t n)
  product-up t w = mul-up binary32 t (whole_f n) (within-finite t w) (at-most-finite n (whole_f n) count_most) w.0 count-up

  pub product : (t : Float) → Within t → Fraction n (product_of t n)
  product t w = fraction n (product_of t n) l (product-up t w) (product-most t w)

  pub product-part : (t : Float) → Within t → whole_part_of (product_of t n) ≤ n
  product-part t w = let y = product_of t n in rw (product t w).floor (part-most n (num y) (den y) (den_pos y) (product t w).most)

  -- a later progress
  module _ (t u : Float) (w : Within t) (x : Within u) (h : T (le t u)) where
    pub product-cross : num (product_of t n) * den (product_of u n) ≤ num (product_of u n) * den (product_of t n)
    product-cross = cross (product_of t n) (product_of u n) (at-most-finite n (product_of t n) (product-most t w)) (at-most-finite n (product_of u n) (product-most u x)) (product-up t w) (product-up u x) (go (whole_f n) count-is (product-up u x))
      where
        go : (c : Float) → Is c n → Up (u ⊗ c) → T (le (t ⊗ c) (u ⊗ c))
        go nan v z = absurd v
        go (inf s) v z = absurd v
        go (fin true o d) v z = absurd (true≢false v.0)
        go (fin false o d) v z = times-le o d t u (within-finite t w) (within-finite u x) w.0 x.0 h z

  pub product_whole : (t : Float) → Within t → le (product_of t n) (whole_f (whole_part_of (product_of t n))) ≡ is_whole (product_of t n)
  product_whole t w = whole-tested n (product_of t n) l (product-up t w) (product-most t w)
