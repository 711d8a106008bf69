-- How large a rounded result can be: sums, differences and products of floats that are at most p and q in size. Assumes nothing.
use Rattle.std.proofs.Common.{◌≡◌, ℕ, zero, suc, ◌+◌, ◌-◌, ◌*◌, ◌^◌, ◌<◌, ◌≤◌, Bool, true, false, cond, not, ◌&&◌, T, ltb, ℤ, pos, sym, refl, ap, ◌∙◌, subst, ⊎_elim, zero-le, le_trans, le_of_eq, lt_of_lt_of_le, lt_irrefl, mul-le-mul_right, zero-lt-suc, mul_comm, eq-zero-or-pos, mul-le-mul, mul-pos, one-mul, mul-zero, zero-mul, mul-one, arith, lit≤, leb→le, pow_mono, le-ltb, ne_eqb}
use mathlib.Core.Path.{subst⁻¹}
use mathlib.Core.Bool.{beq}
use native.Mathlib.Nat.{mul-mul-mul_comm}
use lib.Ieee.{Float, nan, inf, fin, Format, unlike, prec, emax, low, up, down, odd, units, round, sum, add, sub, mul, div, neg, lt, le, eq, is_nan, of_int, of_bits}
use lib.Ieee.Fits.{up_pos, down_pos, round_is}
use lib.Ieee.Back.{round_whole}
use lib.Ieee.Order.{drop, kept, round_mono}
use Rattle.math.specs.Whole.{Is}
use Rattle.math.specs.Rounded.{zero_f, one_f}
use Rattle.math.specs.Range.{is_finite, size_of, AtMost}
use Rattle.math.proofs.Choice.{by-test}
use Rattle.math.proofs.Numbers.{finite_number}
use Rattle.math.proofs.Order.{le-sizes, le-chain, times_none}
use Rattle.math.proofs.Upward.{Up, up_none, none_of, round_up}
use Rattle.math.proofs.Wholes.{zero_is, le_is, fraction-le, le-fraction}

pub at-most-finite : (n : ℕ) (x : Float) → AtMost n x → T (is_finite x)
at-most-finite n nan h = absurd h
at-most-finite n (inf s) h = absurd h
at-most-finite n (fin s m e) h = tt

pub at-most-number : (n : ℕ) (x : Float) → AtMost n x → is_nan x ≡ false
at-most-number n x h = finite_number x (at-most-finite n x h)

-- finite, and at least 1 / k in size
abbrev pub AtLeast : ℕ → Float → Type 0
AtLeast k nan = ⊥
AtLeast k (inf s) = ⊥
AtLeast k (fin s m e) = down e ≤ k * (m * up e)

pub at-most-more : (n k : ℕ) (x : Float) → n ≤ k → AtMost n x → AtMost k x
at-most-more n k nan l h = h
at-most-more n k (inf s) l h = h
at-most-more n k (fin s m e) l h = le_trans h (mul-le-mul_right (down e) l)

-- from 0 to n, by comparison
pub up_to : (n : ℕ) (x z : Float) → Is z n → Up x → T (le x z) → AtMost n x
unfolding le lt eq of_bits
up_to n nan z v h k = absurd h
up_to n (inf true) z v h k = absurd h
up_to n (inf false) nan v h k = absurd v
up_to n (inf false) (inf t) v h k = absurd v
up_to n (inf false) (fin t o d) v h k = absurd k
up_to n (fin true m e) z v h k = subst⁻¹ (λ (a : ℕ). a ≤ n * down e) (up_none m e h) zero-le
up_to n (fin false m e) z v h k = leb→le (m * up e) (n * down e) (subst T (fraction-le z n m e v) k)

-- a size that is not above a whole number n
pub size-at-most : (n : ℕ) (x z : Float) → Is z n → T (le (size_of x) z) → AtMost n x
unfolding le lt eq
size-at-most n nan z v h = absurd h
size-at-most n (inf s) nan v h = absurd v
size-at-most n (inf s) (inf t) v h = absurd v
size-at-most n (inf s) (fin t o d) v h = absurd h
size-at-most n (fin s m e) z v h = leb→le (m * up e) (n * down e) (subst T (fraction-le z n m e v) h)

-- not below a u that is 1
minus-low : (m : ℕ) (e : ℤ) → T (le (fin true m e) zero_f)
unfolding le lt eq of_bits
minus-low m e = subst⁻¹ T (le-sizes true false (m * up e * 1) (0 * 1 * down e)) tt

from_one : (u x : Float) (n : ℕ) → Is u 1 → AtMost n x → T (le u x) → AtLeast 1 x
from_one u nan n v h k = absurd h
from_one u (inf s) n v h k = absurd h
from_one u (fin false m e) n v h k = le_trans (le_of_eq (sym (one-mul (down e)))) (le_trans (leb→le (1 * down e) (m * up e) (subst T (le-fraction u 1 m e v) k)) (le_of_eq (sym (one-mul (m * up e)))))
from_one u (fin true m e) n v h k = absurd (subst T (le_is u zero_f 1 0 v zero_is) (le-chain u (fin true m e) zero_f k (minus-low m e)))

-- a whole number
pub is-at-most : (x : Float) (n k : ℕ) → Is x n → n ≤ k → AtMost k x
is-at-most nan n k v l = absurd v
is-at-most (inf s) n k v l = absurd v
is-at-most (fin s m e) n k v l = le_trans (le_of_eq (sym (mul-one (m * up e)) ∙ v.1)) (mul-le-mul_right (down e) l)

pub is-at-least : (x : Float) (n : ℕ) → Is x n → 1 ≤ n → AtLeast 1 x
is-at-least nan n v l = absurd v
is-at-least (inf s) n v l = absurd v
is-at-least (fin s m e) n v l =
    le_trans (le_of_eq (sym (one-mul (down e)))) (le_trans (mul-le-mul_right (down e) l) (le_of_eq (sym v.1 ∙ mul-one (m * up e) ∙ sym (one-mul (m * up e)))))

-- rounding changes only the sign with the sign
odd-neg : (d q k l : ℕ) → odd d true q k l ≡ neg (odd d false q k l)
unfolding odd neg
odd-neg d zero k l = refl
odd-neg d (suc q) k l = refl

units-neg : (f : Format) (q k : ℕ) → units f true q k ≡ neg (units f false q k)
unfolding units neg
units-neg f q k = go (ltb (q * 2 ^ k) (2 ^ (low f + suc (emax f))))
  where
    go : (b : Bool) → cond b (odd (suc (prec f)) true q k (low f)) (inf true) ≡ neg (cond b (odd (suc (prec f)) false q k (low f)) (inf false))
    go true = odd-neg (suc (prec f)) q k (low f)
    go false = refl

pub round-neg : (f : Format) (a c : ℕ) → round f true a c ≡ neg (round f false a c)
round-neg f a c = round_is f true a c ∙ units-neg f (kept (prec f) (a * 2 ^ low f) c) (drop (prec f) (a * 2 ^ low f) c) ∙ ap neg (sym (round_is f false a c))

pub at-most-neg : (n : ℕ) (x : Float) → AtMost n x → AtMost n (neg x)
unfolding neg
at-most-neg n nan h = h
at-most-neg n (inf s) h = h
at-most-neg n (fin s m e) h = h

-- the operations of a format that holds the whole number n
module _ (f : Format) (n : ℕ) (held : Is (of_int f (pos n)) n) where
  pub round-at-most : (s : Bool) (a c : ℕ) → 0 < c → a ≤ n * c → AtMost n (round f s a c)
  unfolding of_int
  round-at-most s a c C h = go s
    where
      plain : AtMost n (round f false a c)
      plain = up_to n (round f false a c) (round f false n 1) held (round_up f a c C) (round_mono f a c n 1 C (zero-lt-suc 0) (le_trans (le_of_eq (mul-one a)) h))

      go : (s : Bool) → AtMost n (round f s a c)
      go false = plain
      go true = subst⁻¹ (AtMost n) (round-neg f a c) (at-most-neg n (round f false a c) plain)

  -- like signs add up, and unlike signs leave the difference
  sum-at-most : (s : Bool) (a : ℕ) (t : Bool) (b c : ℕ) → 0 < c → a + b ≤ n * c → AtMost n (sum f s a t b c)
  unfolding sum
  sum-at-most s a t b c C h =
      by-test (AtMost n) (beq s t) _ _ (λ _. round-at-most s (a + b) c C h)
      (λ _. by-test (AtMost n) (ltb a b) _ _ (λ _. round-at-most t (b - a) c C (omega arith)) (λ _. round-at-most (s && ltb b a) (a - b) c C (omega arith)))

  sum_near : (s : Bool) (a b c : ℕ) → 0 < c → a ≤ n * c → b ≤ n * c → AtMost n (sum f s a (not s) b c)
  unfolding sum
  sum_near true a b c C h k = by-test (AtMost n) (ltb a b) _ _ (λ _. round-at-most false (b - a) c C (omega arith)) (λ _. round-at-most (ltb b a) (a - b) c C (omega arith))
  sum_near false a b c C h k = by-test (AtMost n) (ltb a b) _ _ (λ _. round-at-most true (b - a) c C (omega arith)) (λ _. round-at-most false (a - b) c C (omega arith))

  pub add-at-most : (p q : ℕ) (x y : Float) → p + q ≤ n → AtMost p x → AtMost q y → AtMost n (add f x y)
  unfolding add
  add-at-most p q nan y l h k = absurd h
  add-at-most p q (inf s) y l h k = absurd h
  add-at-most p q (fin s m e) nan l h k = absurd k
  add-at-most p q (fin s m e) (inf t) l h k = absurd k
  add-at-most p q (fin s m e) (fin t o d) l h k =
      sum-at-most s (m * up e * down d) t (o * up d * down e) (down e * down d) (mul-pos (down_pos e) (down_pos d))
      (omega (arith, mul-le-mul_right (down d) h, mul-le-mul_right (down e) k, mul-le-mul_right (down e * down d) l))

  pub sub-at-most : (p q : ℕ) (x y : Float) → p + q ≤ n → AtMost p x → AtMost q y → AtMost n (sub f x y)
  unfolding sub
  sub-at-most p q x y l h k = add-at-most p q x (neg y) l h (at-most-neg q y k)

  pub mul-at-most : (p q : ℕ) (x y : Float) → p * q ≤ n → AtMost p x → AtMost q y → AtMost n (mul f x y)
  unfolding mul
  mul-at-most p q nan y l h k = absurd h
  mul-at-most p q (inf s) y l h k = absurd h
  mul-at-most p q (fin s m e) nan l h k = absurd k
  mul-at-most p q (fin s m e) (inf t) l h k = absurd k
  mul-at-most p q (fin s m e) (fin t o d) l h k =
      round-at-most (unlike s t) (m * up e * (o * up d)) (down e * down d) (mul-pos (down_pos e) (down_pos d))
      (le_trans (mul-le-mul h k) (le_trans (le_of_eq (mul-mul-mul_comm p (down e) q (down d))) (mul-le-mul_right (down e * down d) l)))

  pub div-at-most : (p k : ℕ) (x y : Float) → p * k ≤ n → AtMost p x → AtLeast k y → AtMost n (div f x y)
  unfolding div
  div-at-most p k nan y l h b = absurd h
  div-at-most p k (inf s) y l h b = absurd h
  div-at-most p k (fin s m e) nan l h b = absurd b
  div-at-most p k (fin s m e) (inf t) l h b = absurd b
  div-at-most p k (fin s m e) (fin t o d) l h b =
      rw (ne_eqb o 0 (λ z. none z))
      (round-at-most (unlike s t) (m * up e * down d) (o * up d * down e) (mul-pos some (down_pos e))
      (le_trans (mul-le-mul h b) (le_trans (le_of_eq (mul-mul-mul_comm p (down e) k (o * up d) ∙ ap (λ (i : ℕ). p * k * i) (mul_comm (down e) (o * up d)))) (mul-le-mul_right (o * up d * down e) l))))
    where
      none : o ≡ 0 → ⊥
      none z = lt_irrefl 0 (lt_of_lt_of_le (down_pos d) (le_trans b (le_of_eq (ap (λ (i : ℕ). k * (i * up d)) z ∙ ap (λ (i : ℕ). k * i) (zero-mul (up d)) ∙ mul-zero k))))

      some : 0 < o * up d
      some = mul-pos (⊎_elim (λ z. absurd (none z)) (λ q. q) (eq-zero-or-pos o)) (up_pos d)

  -- the difference of two floats from 0 up
  up-near : (s t : Bool) (a b c : ℕ) → (s ≡ true → a ≡ 0) → (t ≡ true → b ≡ 0) → 0 < c → a ≤ n * c → b ≤ n * c → AtMost n (sum f s a (not t) b c)
  up-near true true a b c p q C h k = sum_near true a b c C h k
  up-near false false a b c p q C h k = sum_near false a b c C h k
  up-near true false a b c p q C h k = sum-at-most true a true b c C (omega (arith, p refl))
  up-near false true a b c p q C h k = sum-at-most false a false b c C (omega (arith, q refl))

  pub sub-near : (x y : Float) → Up x → Up y → AtMost n x → AtMost n y → AtMost n (sub f x y)
  unfolding sub add neg
  sub-near nan y u v h k = absurd h
  sub-near (inf s) y u v h k = absurd h
  sub-near (fin s m e) nan u v h k = absurd k
  sub-near (fin s m e) (inf t) u v h k = absurd k
  sub-near (fin s m e) (fin t o d) u v h k =
      up-near s t (m * up e * down d) (o * up d * down e) (down e * down d) (λ p. times_none (m * up e) (down d) (none_of s m e u p)) (λ p. times_none (o * up d) (down e) (none_of t o d v p))
      (mul-pos (down_pos e) (down_pos d)) (omega (arith, mul-le-mul_right (down d) h)) (omega (arith, mul-le-mul_right (down e) k))

-- 1 and a float from 0 up
pub one_more : (f : Format) (n : ℕ) (y : Float) → Up y → AtMost n (add f one_f y) → AtMost n y → AtLeast 1 (add f one_f y)
unfolding add sum of_bits
one_more f n nan u h k = absurd k
one_more f n (inf t) u h k = absurd k
one_more f n (fin t o d) u h k = from_one (round f false 1 1) (sum f false (1 * 1 * down d) t (o * up d * 1) (1 * down d)) n (one-is f) h (go t (none_of t o d u))
  where
    one-is : (f : Format) → Is (round f false 1 1) 1
    one-is f = round_whole f false 1 (le_trans (lit≤ tt) (pow_mono {i = 0} {j = prec f} zero-le))

    go : (t : Bool) → (t ≡ true → o * up d ≡ 0) → T (le (round f false 1 1) (sum f false (1 * 1 * down d) t (o * up d * 1) (1 * down d)))
    go false p = round_mono f 1 1 (1 * 1 * down d + o * up d * 1) (1 * down d) (zero-lt-suc 0) (mul-pos (zero-lt-suc 0) (down_pos d)) (omega arith)
    go true p =
        let z : o * up d ≡ 0 = p refl in
        rw (le-ltb (1 * 1 * down d) (o * up d * 1) (omega arith))
        (round_mono f 1 1 (1 * 1 * down d - o * up d * 1) (1 * down d) (zero-lt-suc 0) (mul-pos (zero-lt-suc 0) (down_pos d)) (omega arith))
