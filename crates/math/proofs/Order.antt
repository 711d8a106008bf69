-- The order of floats. Off NaN `le` and `lt` turn into each other; both are transitive. Assumes nothing.
use Rattle.std.proofs.Common.{◌≡◌, ℕ, ◌+◌, ◌*◌, ◌<◌, ◌≤◌, Bool, true, false, not, ◌&&◌, ◌||◌, T, eqb, ltb, leb, ◌⊎◌, ℤ, sym, refl, ap, ◌∙◌, subst, inl, inr, ⊎_elim, true≢false, le_refl, lt_of_lt_of_le, lt_irrefl, eq-zero-or-pos, add_comm, eq-or-lt_of_le, mul-pos, zero-mul, arith, le→leb, eqb→eq, ltb→lt, lt→ltb, leb→le, nltb→le, eq-eqb}
use mathlib.Core.Path.{subst⁻¹}
use lib.Dec.{not_T}
use lib.Ieee.{Float, nan, inf, fin, up, down, below, level, lt, eq, le, is_nan}
use lib.Ieee.Fits.{down_pos, and_i, and_l, and_r, eq→eqb}
use lib.Ieee.Bits.{is_true, is_false}
use lib.Ieee.Positive.{through}

-- two tests that imply each other are equal
same : (p q : Bool) → (T p → T q) → (T q → T p) → p ≡ q
same true true h k = refl
same false false h k = refl
same true false h k = absurd (h tt)
same false true h k = absurd (k tt)

or_elim : {C : Type 0} (a b : Bool) → (T a → C) → (T b → C) → T (a || b) → C
or_elim true b f g h = f tt
or_elim false b f g h = g h

or_left : (a b : Bool) → T a → T (a || b)
or_left true b h = tt
or_left false b h = absurd h

or_right : (a b : Bool) → T b → T (a || b)
or_right true b h = tt
or_right false b h = h

-- ±a against ±b, on the sizes
abbrev pub leq : Bool → ℕ → Bool → ℕ → Bool
leq false a false b = leb a b
leq false a true b = leb (a + b) 0
leq true a false b = true
leq true a true b = leb b a

pub not-ltb : (a b : ℕ) → not (ltb b a) ≡ leb a b
not-ltb a b = same (not (ltb b a)) (leb a b) (λ h. le→leb a b (nltb→le b a h)) (λ h. not_T (ltb b a) (λ k. crossed (leb→le a b h) (ltb→lt b a k)))
  where
    crossed : a ≤ b → b < a → ⊥
    crossed h k = omega arith

-- one number is at most another, or one of them is 0 on either side of 0
at_most : (a b : ℕ) → ltb a b || (eqb a b && true) ≡ leb a b
at_most a b =
    same (ltb a b || (eqb a b && true)) (leb a b)
    (or_elim (ltb a b) (eqb a b && true) (λ h. le→leb a b (less (ltb→lt a b h))) (λ h. le→leb a b (level (eqb→eq a b (and_l (eqb a b) true h)))))
    (λ h. go (leb→le a b h))
  where
    less : a < b → a ≤ b
    less h = omega arith

    level : a ≡ b → a ≤ b
    level h = omega arith

    go : a ≤ b → T (ltb a b || (eqb a b && true))
    go h = ⊎_elim (λ e. or_right (ltb a b) (eqb a b && true) (and_i (eqb a b) true (eq→eqb e) tt)) (λ l. or_left (ltb a b) (eqb a b && true) (lt→ltb a b l)) (eq-or-lt_of_le h)

pub le-sizes : (s t : Bool) (a b : ℕ) → below s a t b || level s a t b ≡ leq s a t b
le-sizes false false a b = at_most a b
le-sizes true true a b = ap (λ (q : Bool). ltb b a || (q && true)) (flip a b) ∙ at_most b a
  where
    flip : (a b : ℕ) → eqb a b ≡ eqb b a
    flip a b = same (eqb a b) (eqb b a) (λ h. eq→eqb (sym (eqb→eq a b h))) (λ h. eq→eqb (sym (eqb→eq b a h)))
le-sizes false true a b =
    same (eqb a b && eqb a 0) (leb (a + b) 0)
    (λ h. le→leb (a + b) 0 (both (eqb→eq a b (and_l (eqb a b) (eqb a 0) h)) (eqb→eq a 0 (and_r (eqb a b) (eqb a 0) h))))
    (λ h. and_i (eqb a b) (eqb a 0) (eq→eqb (level (leb→le (a + b) 0 h))) (eq→eqb (none (leb→le (a + b) 0 h))))
  where
    both : a ≡ b → a ≡ 0 → a + b ≤ 0
    both h k = omega arith

    level : a + b ≤ 0 → a ≡ b
    level h = omega arith

    none : a + b ≤ 0 → a ≡ 0
    none h = omega arith
le-sizes true false a b = same (ltb 0 (a + b) || (eqb a b && eqb a 0)) true (λ h. tt) (λ h. go (eq-zero-or-pos (a + b)))
  where
    level : a + b ≡ 0 → a ≡ b
    level h = omega arith

    none : a + b ≡ 0 → a ≡ 0
    none h = omega arith

    go : (a + b ≡ 0) ⊎ (0 < a + b) → T (ltb 0 (a + b) || (eqb a b && eqb a 0))
    go (inl h) = or_right (ltb 0 (a + b)) (eqb a b && eqb a 0) (and_i (eqb a b) (eqb a 0) (eq→eqb (level h)) (eq→eqb (none h)))
    go (inr h) = or_left (ltb 0 (a + b)) (eqb a b && eqb a 0) (lt→ltb 0 (a + b) h)

not-lt-sizes : (s t : Bool) (a b : ℕ) → not (below t b s a) ≡ leq s a t b
not-lt-sizes false false a b = not-ltb a b
not-lt-sizes true true a b = not-ltb b a
not-lt-sizes false true a b = not-ltb (b + a) 0 ∙ ap (λ (n : ℕ). leb n 0) (add_comm b a)
not-lt-sizes true false a b = refl

-- off NaN, at most is not above
pub le-turned : (x y : Float) → is_nan x ≡ false → is_nan y ≡ false → le x y ≡ not (lt y x)
unfolding is_nan le lt eq
le-turned nan y p q = absurd (true≢false p)
le-turned (inf s) nan p q = absurd (true≢false q)
le-turned (fin s m e) nan p q = absurd (true≢false q)
le-turned (inf true) (inf true) p q = refl
le-turned (inf true) (inf false) p q = refl
le-turned (inf false) (inf true) p q = refl
le-turned (inf false) (inf false) p q = refl
le-turned (inf true) (fin t n d) p q = refl
le-turned (inf false) (fin t n d) p q = refl
le-turned (fin s m e) (inf true) p q = refl
le-turned (fin s m e) (inf false) p q = refl
le-turned (fin s m e) (fin t n d) p q = le-sizes s t (m * up e * down d) (n * up d * down e) ∙ sym (not-lt-sizes s t (m * up e * down d) (n * up d * down e))

-- a test between two floats that passes has no NaN in it
pub le-numbers : (x y : Float) → T (le x y) → (is_nan x ≡ false) × (is_nan y ≡ false)
unfolding is_nan le lt eq
le-numbers nan y h = absurd h
le-numbers (inf s) nan h = absurd h
le-numbers (fin s m e) nan h = absurd h
le-numbers (inf s) (inf t) h = (refl, refl)
le-numbers (inf s) (fin t n d) h = (refl, refl)
le-numbers (fin s m e) (inf t) h = (refl, refl)
le-numbers (fin s m e) (fin t n d) h = (refl, refl)

pub lt-le : (x y : Float) → T (lt x y) → T (le x y)
unfolding le
lt-le x y h = or_left (lt x y) (eq x y) h

pub equal-le : (x y : Float) → T (eq x y) → T (le x y)
unfolding le
equal-le x y h = or_right (lt x y) (eq x y) h

pub not-lt-of-le : (x y : Float) → T (le x y) → lt y x ≡ false
not-lt-of-le x y h =
    let n = le-numbers x y h in
    is_false (lt y x) (subst T (le-turned x y n.0 n.1) h)

pub not_le_of_lt : (x y : Float) → T (lt x y) → le y x ≡ false
not_le_of_lt x y h =
    let n = le-numbers x y (lt-le x y h) in
    le-turned y x n.1 n.0 ∙ ap not (is_true (lt x y) h)

-- what is not below is at least, and what is not at most is above
pub le_of_not_lt : (x y : Float) → is_nan x ≡ false → is_nan y ≡ false → lt x y ≡ false → T (le y x)
le_of_not_lt x y p q h = subst⁻¹ T (le-turned y x q p ∙ ap not h) tt

pub lt_of_not_le : (x y : Float) → is_nan x ≡ false → is_nan y ≡ false → le x y ≡ false → T (lt y x)
lt_of_not_le x y p q h = go (lt y x) (sym (le-turned x y p q) ∙ h)
  where
    go : (b : Bool) → not b ≡ false → T b
    go true e = tt
    go false e = absurd (true≢false e)

pub le-self : (x : Float) → is_nan x ≡ false → T (le x x)
unfolding is_nan le lt eq
le-self nan p = absurd (true≢false p)
le-self (inf true) p = tt
le-self (inf false) p = tt
le-self (fin true m e) p = subst⁻¹ T (le-sizes true true (m * up e * down e) (m * up e * down e)) (le→leb _ _ (le_refl (m * up e * down e)))
le-self (fin false m e) p = subst⁻¹ T (le-sizes false false (m * up e * down e) (m * up e * down e)) (le→leb _ _ (le_refl (m * up e * down e)))

pub eq_self : (x : Float) → is_nan x ≡ false → eq x x ≡ true
unfolding is_nan eq
eq_self nan p = absurd (true≢false p)
eq_self (inf true) p = refl
eq_self (inf false) p = refl
eq_self (fin true m e) p = simp (eq-eqb (m * up e * down e) (m * up e * down e) refl)
eq_self (fin false m e) p = simp (eq-eqb (m * up e * down e) (m * up e * down e) refl)

pub lt-not-eq : (x y : Float) → T (lt x y) → eq y x ≡ false
lt-not-eq x y h = go (eq y x) refl
  where
    go : (b : Bool) → eq y x ≡ b → b ≡ false
    go false e = refl
    go true e = absurd (subst T (not-lt-of-le y x (equal-le y x (subst⁻¹ T e tt))) h)

-- chains. The fractions are a / p, b / q and c / r
no-factor : (a r : ℕ) → 0 < r → a * r ≤ 0 → a ≡ 0
no-factor a r R h = ⊎_elim (λ z. z) (λ A. absurd (lt_irrefl 0 (lt_of_lt_of_le (mul-pos A R) h))) (eq-zero-or-pos a)

left-zero : (x y : ℕ) → x + y ≤ 0 → x ≤ 0
left-zero x y h = omega arith

right_zero : (x y : ℕ) → x + y ≤ 0 → y ≤ 0
right_zero x y h = omega arith

pub times_none : (a r : ℕ) → a ≡ 0 → a * r ≡ 0
times_none a r h = ap (λ (n : ℕ). n * r) h ∙ zero-mul r

chain : (s t u : Bool) (a b c p q r : ℕ) → 0 < p → 0 < q → 0 < r → T (leq s (a * q) t (b * p)) → T (leq t (b * r) u (c * q)) → T (leq s (a * r) u (c * p))
chain false false false a b c p q r P Q R h k = le→leb (a * r) (c * p) (through a b c p q r Q (leb→le (a * q) (b * p) h) (leb→le (b * r) (c * q) k))
chain false false true a b c p q r P Q R h k =
    let g : b * r + c * q ≤ 0 = leb→le (b * r + c * q) 0 k in
    let B : b * p ≡ 0 = times_none b p (no-factor b r R (left-zero (b * r) (c * q) g)) in
    let C : c * p ≡ 0 = times_none c p (no-factor c q Q (right_zero (b * r) (c * q) g)) in
    let A : a * q ≤ b * p = leb→le (a * q) (b * p) h in
    let D : a * r ≡ 0 = times_none a r (no-factor a q Q (omega arith)) in
    le→leb (a * r + c * p) 0 (omega arith)
chain false true false a b c p q r P Q R h k =
    let D : a * r ≡ 0 = times_none a r (no-factor a q Q (left-zero (a * q) (b * p) (leb→le (a * q + b * p) 0 h))) in
    le→leb (a * r) (c * p) (omega arith)
chain false true true a b c p q r P Q R h k =
    let g : a * q + b * p ≤ 0 = leb→le (a * q + b * p) 0 h in
    let D : a * r ≡ 0 = times_none a r (no-factor a q Q (left-zero (a * q) (b * p) g)) in
    let B : b * r ≡ 0 = times_none b r (no-factor b p P (right_zero (a * q) (b * p) g)) in
    let K : c * q ≤ b * r = leb→le (c * q) (b * r) k in
    let C : c * p ≡ 0 = times_none c p (no-factor c q Q (omega arith)) in
    le→leb (a * r + c * p) 0 (omega arith)
chain true t false a b c p q r P Q R h k = tt
chain true false true a b c p q r P Q R h k =
    let C : c * p ≡ 0 = times_none c p (no-factor c q Q (right_zero (b * r) (c * q) (leb→le (b * r + c * q) 0 k))) in
    le→leb (c * p) (a * r) (omega arith)
chain true true true a b c p q r P Q R h k = le→leb (c * p) (a * r) (through c b a r q p Q (leb→le (c * q) (b * r) k) (leb→le (b * p) (a * q) h))

from-bottom : (z : Float) → is_nan z ≡ false → T (le (inf true) z)
unfolding is_nan le lt eq
from-bottom nan p = absurd (true≢false p)
from-bottom (inf true) p = tt
from-bottom (inf false) p = tt
from-bottom (fin u o g) p = tt

from-top : (s : Bool) (m : ℕ) (e : ℤ) (z : Float) → T (le (inf false) z) → T (le (fin s m e) z)
unfolding le lt eq
from-top s m e nan k = absurd k
from-top s m e (inf true) k = absurd k
from-top s m e (inf false) k = tt
from-top s m e (fin u o g) k = absurd k

pub le-chain : (x y z : Float) → T (le x y) → T (le y z) → T (le x z)
unfolding le lt eq
le-chain nan y z h k = absurd h
le-chain (inf true) y z h k = from-bottom z (le-numbers y z k).1
le-chain (inf false) nan z h k = absurd h
le-chain (inf false) (inf true) z h k = absurd h
le-chain (inf false) (inf false) z h k = k
le-chain (inf false) (fin t n d) z h k = absurd h
le-chain (fin s m e) nan z h k = absurd h
le-chain (fin s m e) (inf true) z h k = absurd h
le-chain (fin s m e) (inf false) z h k = from-top s m e z k
le-chain (fin s m e) (fin t n d) nan h k = absurd k
le-chain (fin s m e) (fin t n d) (inf true) h k = absurd k
le-chain (fin s m e) (fin t n d) (inf false) h k = tt
le-chain (fin s m e) (fin t n d) (fin u o g) h k =
    subst⁻¹ T (le-sizes s u (m * up e * down g) (o * up g * down e))
    (chain s t u (m * up e) (n * up d) (o * up g) (down e) (down d) (down g) (down_pos e) (down_pos d) (down_pos g)
    (subst T (le-sizes s t (m * up e * down d) (n * up d * down e)) h)
    (subst T (le-sizes t u (n * up d * down g) (o * up g * down d)) k))

pub lt-le-chain : (x y z : Float) → T (lt x y) → T (le y z) → T (lt x z)
lt-le-chain x y z h k = go (lt x z) refl
  where
    go : (b : Bool) → lt x z ≡ b → T b
    go true e = tt
    go false e =
        let n = le-numbers x y (lt-le x y h) in
        let o = le-numbers y z k in
        absurd (subst T (not-lt-of-le y x (le-chain y z x k (le_of_not_lt x z n.0 o.1 e))) h)

pub le-lt-chain : (x y z : Float) → T (le x y) → T (lt y z) → T (lt x z)
le-lt-chain x y z h k = go (lt x z) refl
  where
    go : (b : Bool) → lt x z ≡ b → T b
    go true e = tt
    go false e =
        let n = le-numbers x y h in
        let o = le-numbers y z (lt-le y z k) in
        absurd (subst T (not-lt-of-le z y (le-chain z x y (le_of_not_lt x z n.0 o.1 e) h)) k)
