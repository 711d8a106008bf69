-- What a test says of a float's form. Assumes nothing.
use Rattle.std.proofs.Common.{◌≡◌, ℕ, ◌+◌, ◌*◌, ◌<◌, ◌≤◌, Bool, true, false, cond, ltb, leb, ℤ, sym, refl, ap, ◌∙◌, ⊎_elim, add-zero, eq-zero-or-pos, mul-pos, zero-add, zero-mul, arith, ltb-false, le-ltb}
use mathlib.Core.Bool.{and-true}
use lib.Ieee.{Float, nan, inf, fin, up, down, lt, le, eq, neg}
use lib.Ieee.Fits.{down_pos}
use Rattle.math.specs.Range.{size_of, is_between}
use Rattle.math.proofs.Order.{le-sizes}

no-times : (a d : ℕ) → a ≡ 0 → a * d ≡ 0
no-times a d z = ap (λ (b : ℕ). b * d) z ∙ zero-mul d

-- -0 and +0 are below the same floats
zeros-below : (m : ℕ) (e : ℤ) (y : Float) → m * up e ≡ 0 → lt (fin true m e) y ≡ lt (fin false m e) y
unfolding lt
zeros-below m e nan z = refl
zeros-below m e (inf t) z = refl
zeros-below m e (fin true n d) z = le-ltb (n * up d * down e) (m * up e * down d) (omega (arith, no-times (m * up e) (down d) z))
zeros-below m e (fin false n d) z = rw (no-times (m * up e) (down d) z) (ap (ltb 0) (zero-add (n * up d * down e)))

-- and above the same floats
zeros-above : (m : ℕ) (e : ℤ) (y : Float) → m * up e ≡ 0 → lt y (fin true m e) ≡ lt y (fin false m e)
unfolding lt
zeros-above m e nan z = refl
zeros-above m e (inf t) z = refl
zeros-above m e (fin true n d) z = rw (no-times (m * up e) (down d) z) (ap (ltb 0) (sym (add-zero (n * up d * down e))))
zeros-above m e (fin false n d) z = sym (le-ltb (n * up d * down e) (m * up e * down d) (omega (arith, no-times (m * up e) (down d) z)))

-- what holds of a float with its sign clear, and of both zeros alike, holds of the larger of x and -x as of the size
by-larger : (C : Float → Bool) → ((m : ℕ) (e : ℤ) → m * up e ≡ 0 → C (fin true m e) ≡ C (fin false m e)) → (x : Float) → C (cond (lt x (neg x)) (neg x) x) ≡ C (size_of x)
unfolding lt neg
by-larger C zeros nan = refl
by-larger C zeros (inf true) = refl
by-larger C zeros (inf false) = refl
by-larger C zeros (fin false m e) = refl
by-larger C zeros (fin true m e) = go (ltb 0 (m * up e * down e + m * up e * down e)) refl
  where
    nothing : (a : ℕ) → a * down e + a * down e ≤ 0 → a ≡ 0
    nothing a h = ⊎_elim (λ z. z) (λ p. absurd (crossed (mul-pos p (down_pos e)))) (eq-zero-or-pos a)
      where
        crossed : 0 < a * down e → ⊥
        crossed p = omega arith

    go : (b : Bool) → ltb 0 (m * up e * down e + m * up e * down e) ≡ b → C (cond b (fin false m e) (fin true m e)) ≡ C (fin false m e)
    go true h = refl
    go false h = zeros m e (nothing (m * up e) (ltb-false 0 _ h))

-- below y in size: the larger of x and -x is
pub size-under : (x y : Float) → lt (cond (lt x (neg x)) (neg x) x) y ≡ lt (size_of x) y
size-under x y = by-larger (λ (z : Float). lt z y) (λ m e z. zeros-below m e y z) x

-- and so it is of above
pub size-over : (x y : Float) → lt y (cond (lt x (neg x)) (neg x) x) ≡ lt y (size_of x)
size-over x y = by-larger (λ (z : Float). lt y z) (λ m e z. zeros-above m e y z) x

-- at most y in size: from -y to y
pub size-between : (x : Float) (n : ℕ) (d : ℤ) → is_between (fin true n d) (fin false n d) x ≡ le (size_of x) (fin false n d)
unfolding le lt eq
size-between nan n d = refl
size-between (inf true) n d = refl
size-between (inf false) n d = refl
size-between (fin true m e) n d =
    let a = m * up e * down d in
    let b = n * up d * down e in
    rw (le-sizes true true b a, le-sizes true false a b, le-sizes false false a b) (and-true (leb a b))
size-between (fin false m e) n d =
    let a = m * up e * down d in
    let b = n * up d * down e in
    rw (le-sizes true false b a)
