-- Whole numbers as floats of a format. Up to 2 ^ prec each is a value of the format, and so is every power of 2 in reach; sums, differences, products and comparisons are the numbers' own. Assumes nothing.
use Rattle.std.proofs.Common.{◌≡◌, ℕ, ◌+◌, ◌-◌, ◌*◌, ◌^◌, ◌<◌, ◌≤◌, Bool, true, false, cond, not, eqb, ltb, leb, ℤ, pos, sym, refl, ap, ◌∙◌, subst, true≢false, le_of_eq, lt_of_lt_of_le, lt_of_le_of_lt, lt_irrefl, mul-le-mul_right, mul_assoc, mul_comm, mul-lt-mul_of_pos_right, mul-pos, one-mul, zero-mul, mul-one, mul_right_comm, mul_left_comm, arith, lit<, pow-add, ltb-false, ltb-true, le-ltb, lt-ltb, eq-eqb, ne_eqb, eqb-true}
use native.Mathlib.Nat.{eq_of_mul-eq-mul_right}
use mathlib.Core.Path.{subst⁻¹}
use mathlib.Core.Bool.{and-true}
use lib.Pow.{pow-lt}
use borrow.Author.Tests.{eqb-false}
use lib.Ieee.{Float, nan, inf, fin, Format, emax, low, up, down, round, sum, add, sub, mul, div, neg, lt, le, eq, is_nan, of_int, of_bits}
use lib.Ieee.Exact.{round_exact}
use lib.Ieee.Scale.{round_same}
use lib.Ieee.Back.{round_whole}
use lib.Ieee.Fits.{two, down_pos}
use Rattle.math.specs.Rounded.{zero_f, one_f}
use Rattle.math.specs.Whole.{Is, WholeIs, AddExact, SubExact, MulExact, LtIs, EqIs, LeIs}
use Rattle.math.proofs.Order.{le-turned, not-ltb}

pub whole_is : WholeIs
unfolding of_int
whole_is f n h = round_whole f false n h

-- and so is every power of 2 in the format's reach
pub power-is : (f : Format) (k : ℕ) → k ≤ emax f → Is (of_int f (pos (2 ^ k))) (2 ^ k)
unfolding of_int
power-is f k h =
    round_exact f false (2 ^ k) 1 1 (k + low f) (lit< tt) (pow-lt {i = 0} (lt_of_lt_of_le (lit< tt) (two f)))
    (lt_of_le_of_lt (le_of_eq (one-mul (2 ^ (k + low f)))) (pow-lt (omega arith)))
    (sym (pow-add 2 k (low f)) ∙ sym (mul-one (1 * 2 ^ (k + low f)) ∙ one-mul (2 ^ (k + low f))))

is_number : (x : Float) (n : ℕ) → Is x n → is_nan x ≡ false
unfolding is_nan
is_number nan n v = absurd v
is_number (inf s) n v = refl
is_number (fin s m e) n v = refl

pub zero_is : Is zero_f 0
unfolding of_bits
zero_is = (refl, refl)

pub one-is : Is one_f 1
unfolding of_bits
one-is = (refl, refl)

-- on numbers: x / c is a, and y / c is b
module _ (x y a b c : ℕ) (h : x ≡ a * c) (k : y ≡ b * c) where
  plus : (x + y) * 1 ≡ (a + b) * c
  plus = omega arith

  less : b ≤ a → (x - y) * 1 ≡ (a - b) * c
  less l = let r : a ≡ b + (a - b) = omega arith in omega (arith, ap (λ (z : ℕ). z * c) r)

  module _ (C : 0 < c) where
    ltb-scaled : ltb x y ≡ ltb a b
    ltb-scaled = go (ltb a b) refl
      where
        go : (t : Bool) → ltb a b ≡ t → ltb x y ≡ t
        go true e = lt-ltb x y (omega (arith, mul-lt-mul_of_pos_right (ltb-true a b e) C))
        go false e = le-ltb x y (omega (arith, mul-le-mul_right c (ltb-false a b e)))

    eqb-scaled : eqb x y ≡ eqb a b
    eqb-scaled = go (eqb a b) refl
      where
        go : (t : Bool) → eqb a b ≡ t → eqb x y ≡ t
        go true e = eq-eqb x y (h ∙ ap (λ (z : ℕ). z * c) (eqb-true a b e) ∙ sym k)
        go false e = ne_eqb x y (λ (q : x ≡ y). eqb-false a b e (eq_of_mul-eq-mul_right c C a b (sym h ∙ q ∙ k)))

-- p / E is a, over a denominator D more
cross : (p a E D : ℕ) → p ≡ a * E → p * D ≡ a * (E * D)
cross p a E D h = omega (arith, ap (λ (z : ℕ). z * D) h)

cross-right : (q b E D : ℕ) → q ≡ b * D → q * E ≡ b * (E * D)
cross-right q b E D h = omega (arith, ap (λ (z : ℕ). z * E) h)

times : (p q a b E D : ℕ) → p ≡ a * E → q ≡ b * D → p * q * 1 ≡ a * b * (E * D)
times p q a b E D h k = omega (arith, ap (λ (z : ℕ). z * q) h, ap (λ (z : ℕ). a * E * z) k)

over : (p q a b E D : ℕ) → p ≡ a * E → q ≡ b * D → p * D * b ≡ a * (q * E)
over p q a b E D h k = ap (λ (z : ℕ). z * D * b) h ∙ turned a E D b ∙ ap (λ (z : ℕ). a * (z * E)) (sym k)
  where
    turned : (a E D b : ℕ) → a * E * D * b ≡ a * (b * D * E)
    turned a E D b = simp (mul_assoc, mul_comm, mul_left_comm)

-- what is shown of m * up e / down e, where that is a, and of n * up d / down d, where that is b, holds of all floats that are a and b
by_form : (a b : ℕ) (C : Float → Float → Type 0) → ((m : ℕ) (e : ℤ) (n : ℕ) (d : ℤ) → m * up e ≡ a * down e → n * up d ≡ b * down d → C (fin false m e) (fin false n d))
    → (x y : Float) → Is x a → Is y b → C x y
by_form a b C h nan y v w = absurd v
by_form a b C h (inf s) y v w = absurd v
by_form a b C h (fin true m e) y v w = absurd (true≢false v.0)
by_form a b C h (fin false m e) nan v w = absurd w
by_form a b C h (fin false m e) (inf t) v w = absurd w
by_form a b C h (fin false m e) (fin true n d) v w = absurd (true≢false w.0)
by_form a b C h (fin false m e) (fin false n d) v w = h m e n d (sym (mul-one (m * up e)) ∙ v.1) (sym (mul-one (n * up d)) ∙ w.1)

module _ (f : Format) (x y : Float) (a b : ℕ) (v : Is x a) (w : Is y b) where
  add_is : add f x y ≡ of_int f (pos (a + b))
  unfolding add sum of_int
  add_is =
      by_form a b (λ x y. add f x y ≡ of_int f (pos (a + b)))
      (λ m e n d p q. round_same f false (m * up e * down d + n * up d * down e) (down e * down d) (a + b) 1 (mul-pos (down_pos e) (down_pos d)) (lit< tt)
      (plus (m * up e * down d) (n * up d * down e) a b (down e * down d) (cross (m * up e) a (down e) (down d) p) (cross-right (n * up d) b (down e) (down d) q)))
      x y v w

  sub_is : b ≤ a → sub f x y ≡ of_int f (pos (a - b))
  unfolding sub neg add sum of_int
  sub_is l =
      by_form a b (λ x y. sub f x y ≡ of_int f (pos (a - b)))
      (λ m e n d p q.
      let A = m * up e * down d in
      let B = n * up d * down e in
      let c = down e * down d in
      let P : A ≡ a * c = cross (m * up e) a (down e) (down d) p in
      let Q : B ≡ b * c = cross-right (n * up d) b (down e) (down d) q in
      ap (λ (t : Bool). cond t (round f true (B - A) c) (round f false (A - B) c)) (le-ltb A B (omega (arith, mul-le-mul_right c l)))
      ∙ round_same f false (A - B) c (a - b) 1 (mul-pos (down_pos e) (down_pos d)) (lit< tt) (less A B a b c P Q l))
      x y v w

  mul_is : mul f x y ≡ of_int f (pos (a * b))
  unfolding mul of_int
  mul_is =
      by_form a b (λ x y. mul f x y ≡ of_int f (pos (a * b)))
      (λ m e n d p q. round_same f false (m * up e * (n * up d)) (down e * down d) (a * b) 1 (mul-pos (down_pos e) (down_pos d)) (lit< tt)
      (times (m * up e) (n * up d) a b (down e) (down d) p q))
      x y v w

  -- a quotient is the rounded fraction
  pub div_is : 0 < b → div f x y ≡ round f false a b
  unfolding div
  div_is B =
      by_form a b (λ x y. div f x y ≡ round f false a b)
      (λ m e n d p q.
      let Q : 0 < n * up d = subst⁻¹ (λ (z : ℕ). 0 < z) q (mul-pos B (down_pos d)) in
      let k : eqb n 0 ≡ false = ne_eqb n 0 (λ z. lt_irrefl 0 (subst (λ (z : ℕ). 0 < z) (ap (λ (i : ℕ). i * up d) z ∙ zero-mul (up d)) Q)) in
      ap (λ (t : Bool). cond t (cond (eqb m 0) nan (inf false)) (round f false (m * up e * down d) (n * up d * down e))) k
      ∙ round_same f false (m * up e * down d) (n * up d * down e) a b (mul-pos Q (down_pos e)) B (over (m * up e) (n * up d) a b (down e) (down d) p q))
      x y v w

-- exact where the format holds the result
pub add-exact : AddExact
add-exact f x y a b v w h = subst⁻¹ (λ (z : Float). Is z (a + b)) (add_is f x y a b v w) (whole_is f (a + b) h)

pub sub-exact : SubExact
sub-exact f x y a b v w l h = subst⁻¹ (λ (z : Float). Is z (a - b)) (sub_is f x y a b v w l) (whole_is f (a - b) h)

pub mul-exact : MulExact
mul-exact f x y a b v w h = subst⁻¹ (λ (z : Float). Is z (a * b)) (mul_is f x y a b v w) (whole_is f (a * b) h)

pub lt-is : LtIs
unfolding lt
lt-is x y a b v w =
    by_form a b (λ x y. lt x y ≡ ltb a b)
    (λ m e n d p q. ltb-scaled (m * up e * down d) (n * up d * down e) a b (down e * down d) (cross (m * up e) a (down e) (down d) p) (cross-right (n * up d) b (down e) (down d) q) (mul-pos (down_pos e) (down_pos d)))
    x y v w

pub eq_is : EqIs
unfolding eq
eq_is x y a b v w =
    by_form a b (λ x y. eq x y ≡ eqb a b)
    (λ m e n d p q. and-true (eqb (m * up e * down d) (n * up d * down e))
    ∙ eqb-scaled (m * up e * down d) (n * up d * down e) a b (down e * down d) (cross (m * up e) a (down e) (down d) p) (cross-right (n * up d) b (down e) (down d) q) (mul-pos (down_pos e) (down_pos d)))
    x y v w

pub le_is : LeIs
le_is x y a b v w = le-turned x y (is_number x a v) (is_number y b w) ∙ ap not (lt-is y x b a w v) ∙ not-ltb a b

-- the whole number a against the fraction m * up e / down e
module _ (x : Float) (a m : ℕ) (e : ℤ) (v : Is x a) where
  size_is : (n : ℕ) (d : ℤ) → n * up d * 1 ≡ a * down d → n * up d * down e ≡ a * down e * down d
  size_is n d h = ap (λ (z : ℕ). z * down e) (sym (mul-one (n * up d)) ∙ h) ∙ mul_right_comm a (down d) (down e)

  pub lt-fraction : lt x (fin false m e) ≡ ltb (a * down e) (m * up e)
  unfolding lt
  lt-fraction = go x v
    where
      go : (x : Float) → Is x a → lt x (fin false m e) ≡ ltb (a * down e) (m * up e)
      go nan v = absurd v
      go (inf s) v = absurd v
      go (fin true n d) v = absurd (true≢false v.0)
      go (fin false n d) v = ltb-scaled (n * up d * down e) (m * up e * down d) (a * down e) (m * up e) (down d) (size_is n d v.1) refl (down_pos d)

  fraction-lt : lt (fin false m e) x ≡ ltb (m * up e) (a * down e)
  unfolding lt
  fraction-lt = go x v
    where
      go : (x : Float) → Is x a → lt (fin false m e) x ≡ ltb (m * up e) (a * down e)
      go nan v = absurd v
      go (inf s) v = absurd v
      go (fin true n d) v = absurd (true≢false v.0)
      go (fin false n d) v = ltb-scaled (m * up e * down d) (n * up d * down e) (m * up e) (a * down e) (down d) refl (size_is n d v.1) (down_pos d)

  plain-number : is_nan (fin false m e) ≡ false
  unfolding is_nan
  plain-number = refl

  pub le-fraction : le x (fin false m e) ≡ leb (a * down e) (m * up e)
  le-fraction = le-turned x (fin false m e) (is_number x a v) plain-number ∙ ap not fraction-lt ∙ not-ltb (a * down e) (m * up e)

  pub fraction-le : le (fin false m e) x ≡ leb (m * up e) (a * down e)
  fraction-le = le-turned (fin false m e) x plain-number (is_number x a v) ∙ ap not lt-fraction ∙ not-ltb (m * up e) (a * down e)
