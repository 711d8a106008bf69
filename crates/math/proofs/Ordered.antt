-- The patterns of floats from 0 up are in the floats' order; so the tests of a value and of a range are tests of patterns. Assumes nothing.
use Rattle.std.proofs.Common.{◌≡◌, ℕ, zero, suc, ◌+◌, ◌-◌, ◌*◌, ◌/◌, ◌%◌, ◌^◌, ◌<◌, ◌≤◌, Bool, true, false, cond, ◌&&◌, ◌||◌, T, eqb, ltb, leb, sym, refl, ap, ◌∙◌, subst, ⊎_elim, true≢false, le_trans, le_refl, lt_of_lt_of_le, lt_irrefl, mul-le-mul, lt_of_mul-lt-mul_right, eq-or-lt_of_le, mul-lt-mul_of_pos_right, mul-pos, zero-add, zero-mul, arith, pow_pos, pow_mono, ltb-false, ltb-true, lt-ltb, ne_eqb, leb-false, leb-true}
use native.Mathlib.Nat.{pow-succ'}
use mathlib.Core.Path.{subst⁻¹}
use borrow.Author.Tests.{lt-leb}
use lib.Ieee.{Float, nan, inf, fin, binary32, up, down, odd, units, of_fields, of_bits, lt, eq, le}
use lib.Ieee.Fits.{down_pos}
use lib.Ieee.Bits.{is_true}
use lib.Ieee.Exact.{HasValue, units_val}
use lib.Ieee.Order.{le_of_values}
use Rattle.math.specs.Rounded.{zero_f}
use Rattle.math.specs.Range.{is_between, is_value, size_of}
use Rattle.math.proofs.Order.{le-sizes, lt-le, not-lt-of-le, not_le_of_lt}
use Rattle.math.proofs.Patterns.{reads-nan}
use Rattle.math.proofs.Units.{under_top, small}

-- n is q units of 2 ^ k
abbrev pub units_of : ℕ → ℕ
units_of n = n / 8388608 - 1

abbrev pub digits_of : ℕ → ℕ
digits_of n = n - (n / 8388608 - 1) * 8388608

-- the pattern n with the sign s
abbrev pub with-sign : Bool → ℕ → ℕ
with-sign s n = cond s 0x8000_0000 0 + n

pub in-units : (s : Bool) (n : ℕ) → n < 0x7f80_0000 → of_bits binary32 (with-sign s n) ≡ units binary32 s (digits_of n) (units_of n)
in-units s n h =
    let e : units_of n * 8388608 + digits_of n ≡ n = omega arith in
    ap (λ (z : ℕ). of_bits binary32 (with-sign s z)) (sym e) ∙ small s (digits_of n) (units_of n) (omega arith) (λ l. omega arith) (omega arith)

pub value : (s : Bool) (n : ℕ) → n < 0x7f80_0000 → HasValue (of_bits binary32 (with-sign s n)) s (digits_of n * 2 ^ units_of n) (2 ^ 149)
value s n h =
    subst (λ (v : Float). HasValue v s (digits_of n * 2 ^ units_of n) (2 ^ 149)) (sym (in-units s n h))
    (units_val binary32 s (digits_of n) (units_of n) (under_top (digits_of n) (units_of n) (omega arith) (omega arith)))

pub plain : (n : ℕ) → n < 0x7f80_0000 → HasValue (of_bits binary32 n) false (digits_of n * 2 ^ units_of n) (2 ^ 149)
plain n h = subst (λ (z : ℕ). HasValue (of_bits binary32 z) false (digits_of n * 2 ^ units_of n) (2 ^ 149)) (zero-add n) (value false n h)

pub rising : (a b : ℕ) → a < b → digits_of a * 2 ^ units_of a < digits_of b * 2 ^ units_of b
rising a b h = ⊎_elim same above (eq-or-lt_of_le k)
  where
    k : units_of a ≤ units_of b
    k = omega arith

    same : units_of a ≡ units_of b → digits_of a * 2 ^ units_of a < digits_of b * 2 ^ units_of b
    same e = subst (λ (z : ℕ). digits_of a * 2 ^ units_of a < digits_of b * 2 ^ z) e (mul-lt-mul_of_pos_right (omega (arith, e)) (pow_pos (units_of a)))

    above : units_of a < units_of b → digits_of a * 2 ^ units_of a < digits_of b * 2 ^ units_of b
    above l =
        let d : digits_of a < 16777216 = omega arith in
        let g : 8388608 ≤ digits_of b = omega arith in
        let m : digits_of a * 2 ^ units_of a < 16777216 * 2 ^ units_of a = mul-lt-mul_of_pos_right d (pow_pos (units_of a)) in
        let u : 8388608 * 2 ^ suc (units_of a) ≤ digits_of b * 2 ^ units_of b = mul-le-mul {n₁ = 8388608} {m₁ = 2 ^ suc (units_of a)} g (pow_mono l) in
        let p : 2 ^ suc (units_of a) ≡ 2 ^ units_of a * 2 = omega (arith, pow-succ' 2 (units_of a)) in
        lt_of_lt_of_le m (le_trans (omega (arith, p)) u)

-- floats that are a / c and b / c
lt-of-values : (x y : Float) (a b c : ℕ) → HasValue x false a c → HasValue y false b c → a < b → lt x y ≡ true
unfolding lt
lt-of-values nan y a b c p q h = absurd p
lt-of-values (inf s) y a b c p q h = absurd p
lt-of-values (fin true m e) y a b c p q h = absurd (true≢false p.0)
lt-of-values (fin false m e) nan a b c p q h = absurd q
lt-of-values (fin false m e) (inf t) a b c p q h = absurd q
lt-of-values (fin false m e) (fin true n d) a b c p q h = absurd (true≢false q.0)
lt-of-values (fin false m e) (fin false n d) a b c p q h = lt-ltb _ _ (lt_of_mul-lt-mul_right c (turned (m * up e) (n * up d) (down e) (down d) p.1 q.1 (mul-lt-mul_of_pos_right h (mul-pos (down_pos e) (down_pos d)))))
  where
    turned : (A B E D : ℕ) → A * c ≡ a * E → B * c ≡ b * D → a * (E * D) < b * (E * D) → A * D * c < B * E * c
    turned A B E D u v l = omega (arith, ap (λ (z : ℕ). z * D) u, ap (λ (z : ℕ). z * E) v)

pub below : (a b : ℕ) → a < b → b < 0x7f80_0000 → lt (of_bits binary32 a) (of_bits binary32 b) ≡ true
below a b h l = lt-of-values _ _ (digits_of a * 2 ^ units_of a) (digits_of b * 2 ^ units_of b) (2 ^ 149) (plain a (omega arith)) (plain b l) (rising a b h)

pub in_order : (a b : ℕ) → a ≤ b → b < 0x7f80_0000 → le (of_bits binary32 a) (of_bits binary32 b) ≡ true
in_order a b h l = ⊎_elim same (λ k. is_true _ (lt-le (of_bits binary32 a) (of_bits binary32 b) (subst⁻¹ T (below a b k l) tt))) (eq-or-lt_of_le h)
  where
    same : a ≡ b → le (of_bits binary32 a) (of_bits binary32 b) ≡ true
    same e =
        let v = digits_of b * 2 ^ units_of b in
        rw e (is_true _ (le_of_values (of_bits binary32 b) (of_bits binary32 b) v (2 ^ 149) v (2 ^ 149) (pow_pos 149) (pow_pos 149) (plain b l) (plain b l) (le_refl (v * 2 ^ 149))))

pub not-in-order : (a b : ℕ) → b < a → a < 0x7f80_0000 → le (of_bits binary32 a) (of_bits binary32 b) ≡ false
not-in-order a b h l = not_le_of_lt (of_bits binary32 b) (of_bits binary32 a) (subst⁻¹ T (below b a h l) tt)

-- the order, as a test of patterns
pub below-test : (a b : ℕ) → a < 0x7f80_0000 → b < 0x7f80_0000 → lt (of_bits binary32 a) (of_bits binary32 b) ≡ ltb a b
below-test a b h l = go (ltb a b) refl
  where
    go : (t : Bool) → ltb a b ≡ t → lt (of_bits binary32 a) (of_bits binary32 b) ≡ t
    go true e = below a b (ltb-true _ _ e) l
    go false e = not-lt-of-le (of_bits binary32 b) (of_bits binary32 a) (subst⁻¹ T (in_order b a (ltb-false _ _ e) h) tt)

pub between : (n top : ℕ) → n ≤ top → top < 0x7f80_0000 → is_between zero_f (of_bits binary32 top) (of_bits binary32 n) ≡ true
between n top h l = rw (in_order 0 n (omega arith) (omega arith), in_order n top h l) refl

size-odd : (d : ℕ) (s : Bool) (q k l : ℕ) → size_of (odd d s q k l) ≡ odd d false q k l
unfolding odd
size-odd d s zero k l = refl
size-odd d s (suc q) k l = refl

picked : (a b s : Bool) (v w : Float) → size_of v ≡ w → size_of (cond a (cond b (inf s) nan) v) ≡ cond a (cond b (inf false) nan) w
picked true true s v w h = refl
picked true false s v w h = refl
picked false b s v w h = h

size-fields : (s : Bool) (x t : ℕ) → size_of (of_fields binary32 s x t) ≡ of_fields binary32 false x t
unfolding of_fields
size-fields s zero t = size-odd 24 s t 0 149
size-fields s (suc x) t = picked (eqb (suc x) 255) (eqb t 0) s _ _ (size-odd 24 s (8388608 + t) x 149)

size-bits : (n : ℕ) → size_of (of_bits binary32 n) ≡ of_bits binary32 (n % 0x8000_0000)
unfolding of_bits
size-bits n =
    let s : leb 0x8000_0000 (n % 0x8000_0000) ≡ false = lt-leb 0x8000_0000 (n % 0x8000_0000) (omega arith) in
    let m : n % 0x8000_0000 % 0x8000_0000 / 0x80_0000 ≡ n % 0x8000_0000 / 0x80_0000 = omega arith in
    let r : n % 0x8000_0000 % 0x80_0000 ≡ n % 0x80_0000 = omega arith in
    size-fields (leb 0x8000_0000 n) (n % 0x8000_0000 / 0x80_0000) (n % 0x80_0000) ∙ sym (rw (s, m, r) refl)

-- an infinity, and a NaN, are at most no finite float
none_above : (x : Float) (a c : ℕ) → HasValue x false a c → le (inf false) x ≡ false
unfolding le lt eq
none_above nan a c v = absurd v
none_above (inf s) a c v = absurd v
none_above (fin s m e) a c v = refl

nan-never : (x : Float) → le nan x ≡ false
unfolding le lt eq
nan-never x = refl

pub endless : (s : Bool) → of_bits binary32 (with-sign s 0x7f80_0000) ≡ inf s
unfolding of_bits
endless true = refl
endless false = refl

-- a pattern with its sign clear, NaNs too
pub at_most : (n top : ℕ) → n < 0x8000_0000 → top < 0x7f80_0000 → le (of_bits binary32 n) (of_bits binary32 top) ≡ leb n top
at_most n top h l = go (leb n top) refl
  where
    beyond : 0x7f80_0000 ≤ n → le (of_bits binary32 n) (of_bits binary32 top) ≡ false
    beyond k =
        let y = of_bits binary32 top in
        ⊎_elim (λ e. ap (λ (z : ℕ). le (of_bits binary32 z) y) (sym e) ∙ ap (λ (x : Float). le x y) (endless false) ∙ none_above y _ (2 ^ 149) (plain top l))
        (λ g. ap (λ (x : Float). le x y) (sym (reads-nan n (omega arith))) ∙ nan-never y) (eq-or-lt_of_le k)

    go : (b : Bool) → leb n top ≡ b → le (of_bits binary32 n) (of_bits binary32 top) ≡ b
    go true e = in_order n top (leb-true _ _ e) l
    go false e = after (leb 0x7f80_0000 n) refl
      where
        after : (b : Bool) → leb 0x7f80_0000 n ≡ b → le (of_bits binary32 n) (of_bits binary32 top) ≡ false
        after true f = beyond (leb-true _ _ f)
        after false f = not-in-order n top (leb-false _ _ e) (leb-false _ _ f)

-- the test of a value, on its pattern
pub value-test : (n : ℕ) → is_value (of_bits binary32 n) ≡ leb (n % 0x8000_0000) 0x4b80_0000
value-test n = rw (size-bits n) (at_most (n % 0x8000_0000) 0x4b80_0000 (omega arith) (omega arith))

pub in_size : (n : ℕ) → n % 0x8000_0000 ≤ 0x4b80_0000 → is_value (of_bits binary32 n) ≡ true
in_size n h = rw (size-bits n) (in_order (n % 0x8000_0000) 0x4b80_0000 h (omega arith))

-- every pattern is one with its sign clear, and a sign
pub signed : (n : ℕ) → n < 0x1_0000_0000 → n ≡ with-sign (leb 0x8000_0000 n) (n % 0x8000_0000)
signed n h = go (leb 0x8000_0000 n) refl
  where
    go : (s : Bool) → leb 0x8000_0000 n ≡ s → n ≡ with-sign s (n % 0x8000_0000)
    go true e = let l : 0x8000_0000 ≤ n = leb-true _ _ e in omega arith
    go false e = let l : n < 0x8000_0000 = leb-false _ _ e in omega arith

-- a float below 0, and -0
not-up : (x : Float) (a c : ℕ) → 0 < a → 0 < c → HasValue x true a c → le zero_f x ≡ false
unfolding le lt eq of_bits
not-up nan a c p q v = absurd v
not-up (inf s) a c p q v = absurd v
not-up (fin false m e) a c p q v = absurd (true≢false (sym v.0))
not-up (fin true m e) a c p q v = le-sizes false true (0 * 1 * down e) (m * up e * 1) ∙ lt-leb _ _ (some (m * up e) v.1)
  where
    some : (z : ℕ) → z * c ≡ a * down e → 0 < 0 * 1 * down e + z * 1
    some zero k = absurd (lt_irrefl 0 (subst (λ (w : ℕ). 0 < w) (sym k ∙ zero-mul c) (mul-pos p (down_pos e))))
    some (suc z) k = omega arith

minus-zero : (x : Float) (a c : ℕ) → HasValue x false a c → is_between zero_f x (of_bits binary32 0x8000_0000) ≡ true
unfolding le lt eq of_bits
minus-zero nan a c v = absurd v
minus-zero (inf s) a c v = absurd v
minus-zero (fin true m e) a c v = absurd (true≢false v.0)
minus-zero (fin false m e) a c v = le-sizes true false (0 * 1 * down e) (m * up e * 1)

no-infinity : le zero_f (inf true) ≡ false
unfolding le lt eq of_bits
no-infinity = refl

no-nan-above : le zero_f nan ≡ false
unfolding le lt eq of_bits
no-nan-above = refl

below-zero : (m : ℕ) → 0 < m → m < 0x8000_0000 → le zero_f (of_bits binary32 (0x8000_0000 + m)) ≡ false
below-zero m p h = go (leb 0x7f80_0000 m) refl
  where
    beyond : 0x7f80_0000 ≤ m → le zero_f (of_bits binary32 (0x8000_0000 + m)) ≡ false
    beyond k =
        ⊎_elim (λ e. ap (λ (z : ℕ). le zero_f (of_bits binary32 (0x8000_0000 + z))) (sym e) ∙ ap (le zero_f) (endless true) ∙ no-infinity)
        (λ g. ap (le zero_f) (sym (reads-nan (0x8000_0000 + m) (omega arith))) ∙ no-nan-above) (eq-or-lt_of_le k)

    go : (b : Bool) → leb 0x7f80_0000 m ≡ b → le zero_f (of_bits binary32 (0x8000_0000 + m)) ≡ false
    go true e = beyond (leb-true _ _ e)
    go false e = not-up (of_bits binary32 (0x8000_0000 + m)) (digits_of m * 2 ^ units_of m) (2 ^ 149) (rising 0 m p) (pow_pos 149) (value true m (leb-false _ _ e))

and_none : (b : Bool) → b && false ≡ false
and_none true = refl
and_none false = refl

-- the test from 0 up to a limit, on a pattern: the limit's, those below it, and that of -0
pub between-test : (n top : ℕ) → n < 0x1_0000_0000 → top < 0x7f80_0000 → is_between zero_f (of_bits binary32 top) (of_bits binary32 n) ≡ leb n top || eqb n 0x8000_0000
between-test n top h l = go (leb 0x8000_0000 n) refl
  where
    clear : n < 0x8000_0000 → (b : Bool) → leb n top ≡ b → is_between zero_f (of_bits binary32 top) (of_bits binary32 n) ≡ b || eqb n 0x8000_0000
    clear k true e = between n top (leb-true _ _ e) l
    clear k false e = rw (at_most n top k l, e, ne_eqb n 0x8000_0000 (λ q. omega arith)) (and_none (le zero_f (of_bits binary32 n)))

    set : 0x8000_0000 ≤ n → is_between zero_f (of_bits binary32 top) (of_bits binary32 n) ≡ eqb n 0x8000_0000
    set k =
        ⊎_elim (λ e. subst (λ (z : ℕ). is_between zero_f (of_bits binary32 top) (of_bits binary32 z) ≡ eqb z 0x8000_0000) e (minus-zero (of_bits binary32 top) _ (2 ^ 149) (plain top l)))
        (λ g.
        let m : 0x8000_0000 + (n - 0x8000_0000) ≡ n = omega arith in
        let f : le zero_f (of_bits binary32 n) ≡ false = rw m at (below-zero (n - 0x8000_0000) (omega arith) (omega arith)) in
        rw (f, ne_eqb n 0x8000_0000 (λ q. omega arith)) refl) (eq-or-lt_of_le k)

    go : (s : Bool) → leb 0x8000_0000 n ≡ s → is_between zero_f (of_bits binary32 top) (of_bits binary32 n) ≡ leb n top || eqb n 0x8000_0000
    go false e = clear (leb-false _ _ e) (leb n top) refl
    go true e =
        let k : 0x8000_0000 ≤ n = leb-true _ _ e in
        rw (lt-leb n top (omega arith)) (set k)
