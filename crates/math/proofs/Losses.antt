-- What is lost in a sum: what was lost before is lost still, and of whole numbers nothing is. Assumes nothing.
use Rattle.std.proofs.Common.{◌≡◌, ℕ, ◌+◌, ◌-◌, ◌≤◌, Bool, true, false, ◌&&◌, ◌||◌, T, refl, ap, ◌∙◌, subst, ⊎_elim, eq-zero-or-pos, arith, le→leb, le-ltb, ne_eqb}
use mathlib.Core.Path.{subst⁻¹}
use mathlib.Core.Bool.{and-false}
use lib.Ieee.{Float, nan, inf, fin, binary32, lt, le, eq, of_bits}
use Rattle.math.specs.Rounded.{zero_f, ◌⊕◌, ◌⊖◌, ◌⊗◌}
use Rattle.math.specs.Range.{size_of, is_finite}
use Rattle.math.specs.Whole.{Is}
use Rattle.math.specs.Lost.{eighth_f, is_off, lost_by, StillLost, WholeKept}
use Rattle.math.proofs.Order.{le-chain, not-lt-of-le}
use Rattle.math.proofs.Sizes.{at-most-finite, is-at-most}
use Rattle.math.proofs.Upward.{Up, mul-up}
use Rattle.math.proofs.Wholes.{zero_is, add-exact, sub-exact, eq_is, lt-is, le_is}

pub still-lost : StillLost
still-lost old add sum h = go (eq sum old) h
  where
    go : (b : Bool) → T b → T (b || is_off old add sum)
    go true t = tt
    go false t = absurd t

size_is : (x : Float) (n : ℕ) → Is x n → Is (size_of x) n
size_is nan n v = v
size_is (inf s) n v = v
size_is (fin s m e) n v = (refl, v.1)

eighth-up : Up eighth_f
unfolding le lt eq of_bits
eighth-up = tt

eighth-finite : T (is_finite eighth_f)
unfolding of_bits
eighth-finite = tt

-- nothing is below a difference that is 0 in size
not-off : (add d : Float) (b : ℕ) → Is add b → Is d 0 → lt (add ⊗ eighth_f) (size_of d) ≡ false
not-off add d b w z =
    let most : Up add = subst⁻¹ T (le_is zero_f add 0 b zero_is w) (le→leb 0 b (omega arith)) in
    let eighth : Up (add ⊗ eighth_f) = mul-up binary32 add eighth_f (at-most-finite b add (is-at-most add b b w (omega arith))) eighth-finite most eighth-up in
    let none : T (le (size_of d) zero_f) = subst⁻¹ T (le_is (size_of d) zero_f 0 0 (size_is d 0 z) zero_is) tt in
    not-lt-of-le (size_of d) (add ⊗ eighth_f) (le-chain (size_of d) zero_f (add ⊗ eighth_f) none eighth)

pub whole-kept : WholeKept
whole-kept old add a b v w l h =
    let sum = old ⊕ add in
    let s : Is sum (a + b) = add-exact binary32 old add a b v w h in
    let back : a + b - a ≡ b = omega arith in
    let grown : Is (sum ⊖ old) b = subst (Is (sum ⊖ old)) back (sub-exact binary32 sum old (a + b) a s v (omega arith) (omega (arith, h))) in
    let none : b - b ≡ 0 = omega arith in
    let off : Is (sum ⊖ old ⊖ add) 0 = subst (Is (sum ⊖ old ⊖ add)) none (sub-exact binary32 (sum ⊖ old) add b b grown w (omega arith) (omega (arith, h))) in
    rw (eq_is sum old (a + b) a s v ∙ ne_eqb (a + b) a (λ q. omega (arith, q, l))) (not-off add (sum ⊖ old ⊖ add) b w off)

-- a float that is 0 is not above 0
pub not-above : (x : Float) (n : ℕ) → Is x n → n ≡ 0 → lt zero_f x ≡ false
not-above x n v z = lt-is zero_f x 0 n zero_is v ∙ le-ltb 0 n (omega (arith, z))

-- so where nothing is added, the rule's "step > 0" fails
pub step_kept : (old add : Float) (a b : ℕ) → Is old a → Is add b → a + b ≤ 16777216 → lt zero_f add && lost_by old add (old ⊕ add) ≡ false
step_kept old add a b v w h =
    ⊎_elim (λ z. rw (not-above add b w z)) (λ l. ap (λ (c : Bool). lt zero_f add && c) (whole-kept old add a b v w l h) ∙ and-false (lt zero_f add)) (eq-zero-or-pos b)
