-- Floats from 0 to 1: what clamps to them, and which f32 operations stay among them. Assumes nothing.
use Rattle.std.proofs.Common.{◌≡◌, ℕ, ◌+◌, ◌-◌, ◌*◌, ◌<◌, ◌≤◌, Bool, true, false, cond, T, ltb, pos, refl, subst, zero-lt-suc, mul-pos, arith, lit≤, le→leb, leb→le, ltb-false, ltb-true}
use mathlib.Core.Path.{subst⁻¹}
use lib.Ieee.{Float, nan, inf, fin, binary32, up, down, round, sum, add, mul, neg, lt, le, eq, is_nan, of_int, of_bits}
use lib.Ieee.Fits.{down_pos}
use lib.Ieee.Order.{round_mono}
use Rattle.math.specs.Whole.{Is}
use Rattle.math.specs.Rounded.{◌⊕◌, ◌⊖◌, ◌⊗◌, zero_f, one_f, two_f}
use Rattle.math.specs.Range.{is_finite, clamp01_of, Within, AtMost, ClampBetween, Clamped, UnderRoot, LessOne, Doubled, Turned}
use Rattle.math.proofs.Choice.{by-test}
use Rattle.math.proofs.Order.{le-sizes, not-lt-of-le, le_of_not_lt, le-numbers, le-self}
use Rattle.math.proofs.Upward.{Up, up_none, sub-up, square-up}
use Rattle.math.proofs.Sizes.{up_to, round-neg, round-at-most, at-most-finite, mul-at-most, sub-near}
use Rattle.math.proofs.Bounded.{one-within}
use Rattle.math.proofs.Wholes.{one-is, whole_is, fraction-le}

-- clamp
pub clamp-between : ClampBetween
clamp-between x lo hi p h = go (lt x lo) (lt hi x) refl refl
  where
    ends : (is_nan lo ≡ false) × (is_nan hi ≡ false)
    ends = le-numbers lo hi h

    go : (a b : Bool) → lt x lo ≡ a → lt hi x ≡ b → T (le lo (cond a lo (cond b hi x))) × T (le (cond a lo (cond b hi x)) hi)
    go true b k l = (le-self lo ends.0, h)
    go false true k l = (h, le-self hi ends.1)
    go false false k l = (le_of_not_lt x lo p ends.0 k, le_of_not_lt hi x ends.1 p l)

zero_one : T (le zero_f one_f)
unfolding le lt eq of_bits
zero_one = tt

pub clamped : Clamped
clamped x p = clamp-between x zero_f one_f p zero_one

pub clamp-stays : (x : Float) → Within x → clamp01_of x ≡ x
clamp-stays x w = simp (not-lt-of-le zero_f x w.0, not-lt-of-le x one_f w.1)

-- from 0 to 1, as from 0 up and at most 1 in size
pub one-held : Is (of_int binary32 (pos 1)) 1
one-held = whole_is binary32 1 (lit≤ tt)

pub within-at-most : (x : Float) → Within x → AtMost 1 x
within-at-most x w = up_to 1 x one_f one-is w.0 w.1

pub within-finite : (x : Float) → Within x → T (is_finite x)
within-finite x w = at-most-finite 1 x (within-at-most x w)

pub at-most-within : (x : Float) → Up x → AtMost 1 x → Within x
unfolding le lt eq of_bits
at-most-within nan u h = absurd h
at-most-within (inf s) u h = absurd h
at-most-within (fin false m e) u h = (u, subst⁻¹ T (fraction-le one_f 1 m e one-is) (le→leb (m * up e) (1 * down e) h))
at-most-within (fin true m e) u h = (u, subst⁻¹ T (le-sizes true false (m * up e * 1) (1 * 1 * down e)) tt)

-- 1 - y * y, which is what a square root is taken of
square : (y : Float) → AtMost 1 y → Within (y ⊗ y)
square y h = at-most-within (y ⊗ y) (square-up binary32 y (at-most-finite 1 y h)) (mul-at-most binary32 1 one-held 1 1 y y (lit≤ tt) h h)

pub rest : (z : Float) → Within z → Within (one_f ⊖ z)
rest z w =
    let h = within-at-most z w in
    at-most-within (one_f ⊖ z) (sub-up binary32 one_f z (within-finite z w) w.1) (sub-near binary32 1 one-held one_f z one-within.0 w.0 (within-at-most one_f one-within) h)

pub under-root : UnderRoot
under-root y h = rest (y ⊗ y) (square y h)

pub less_one : LessOne
less_one t w = sub-near binary32 1 one-held t one_f w.0 one-within.0 (within-at-most t w) (within-at-most one_f one-within)

pub doubled : Doubled
unfolding mul le lt eq of_bits
doubled nan w h = absurd w.1
doubled (inf true) w h = absurd w.0
doubled (inf false) w h = absurd w.1
doubled (fin false m e) w h = round-at-most binary32 1 one-held false (2 * (m * up e)) (1 * down e) (mul-pos (zero-lt-suc 0) (down_pos e)) (twice (m * up e) (down e) (ltb-true (m * up e * 2) (1 * 1 * down e) h))
  where
    twice : (a d : ℕ) → a * 2 < 1 * 1 * d → 2 * a ≤ 1 * (1 * d)
    twice a d h = omega arith
doubled (fin true m e) w h = round-at-most binary32 1 one-held true (2 * (m * up e)) (1 * down e) (mul-pos (zero-lt-suc 0) (down_pos e)) (none (m * up e) (down e) (up_none m e w.0))
  where
    none : (a d : ℕ) → a ≡ 0 → 2 * a ≤ 1 * (1 * d)
    none a d h = omega arith

-- a fraction from 1 to 2 rounds to a float from 1 to 2
one-to-two : (a c : ℕ) → 0 < c → c ≤ a → a ≤ 2 * c → T (le one_f (round binary32 false a c)) × T (le (round binary32 false a c) two_f)
unfolding round of_bits
one-to-two a c C h k = (round_mono binary32 1 1 a c (zero-lt-suc 0) C (omega arith), round_mono binary32 a c 2 1 C (zero-lt-suc 0) (omega arith))

two-less : (z : Float) → T (le one_f z) → T (le z two_f) → AtMost 1 (neg z ⊕ two_f)
unfolding add sum neg le lt eq of_bits
two-less nan h k = absurd h
two-less (inf true) h k = absurd h
two-less (inf false) h k = absurd k
two-less (fin true m e) h k = absurd (some (m * up e) (down e) (down_pos e) (leb→le (1 * 1 * down e + m * up e * 1) 0 (subst T (le-sizes false true (1 * 1 * down e) (m * up e * 1)) h)))
  where
    some : (a d : ℕ) → 0 < d → 1 * 1 * d + a * 1 ≤ 0 → ⊥
    some a d D h = omega arith
two-less (fin false m e) h k =
    let a = m * up e * 1 in
    let b = 1 * 2 * down e in
    let l : 1 * 1 * down e ≤ a = leb→le (1 * 1 * down e) a (subst T (le-sizes false false (1 * 1 * down e) a) h) in
    let u : a ≤ b = leb→le a b (subst T (le-sizes false false a b) k) in
    by-test (AtMost 1) (ltb a b) (round binary32 false (b - a) (down e * 1)) (round binary32 (ltb b a) (a - b) (down e * 1))
    (λ _. round-at-most binary32 1 one-held false (b - a) (down e * 1) (mul-pos (down_pos e) (zero-lt-suc 0)) (omega arith))
    (λ _. round-at-most binary32 1 one-held (ltb b a) (a - b) (down e * 1) (mul-pos (down_pos e) (zero-lt-suc 0)) (omega arith))

pub turned : Turned
unfolding mul neg le lt eq of_bits
turned nan w h = absurd w.1
turned (inf true) w h = absurd w.0
turned (inf false) w h = absurd w.1
turned (fin true m e) w h = absurd (no (m * up e) (down e) (down_pos e) (ltb-false 0 (m * up e * 2 + 1 * 1 * down e) h))
  where
    no : (a d : ℕ) → 0 < d → a * 2 + 1 * 1 * d ≤ 0 → ⊥
    no a d D h = omega arith
turned (fin false m e) w h =
    let a = m * up e in
    let d = down e in
    let l : 1 * 1 * d ≤ a * 2 = ltb-false (a * 2) (1 * 1 * d) h in
    let u : a ≤ 1 * d = within-at-most (fin false m e) w in
    let r = one-to-two (2 * a) (1 * d) (mul-pos (zero-lt-suc 0) (down_pos e)) (omega arith) (omega arith) in
    subst⁻¹ (λ (z : Float). AtMost 1 (z ⊕ two_f)) (round-neg binary32 (2 * a) (1 * d)) (two-less (round binary32 false (2 * a) (1 * d)) r.0 r.1)
