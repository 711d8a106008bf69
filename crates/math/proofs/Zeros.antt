-- Zeros: a float equals 0 exactly where it has no size; x less itself, and a zero over a float above 0, are zeros. Assumes nothing.
use Rattle.std.proofs.Common.{◌≡◌, ℕ, zero, suc, ◌-◌, ◌*◌, Bool, true, false, ◌||◌, T, eqb, ℤ, pos, refl, ap, ◌∙◌, subst, zero-lt-suc, mul-pos, arith, le-ltb, eq-eqb, eqb-true}
use mathlib.Core.Bool.{beq}
use lib.Dec.{eqb-suc-zero}
use lib.Ieee.{Float, nan, inf, fin, binary32, up, down, unlike, sum, add, sub, div, neg, lt, eq, of_bits}
use lib.Ieee.Fits.{down_pos, up_pos}
use Rattle.math.specs.Rounded.{◌⊖◌, ◌⊘◌, zero_f}
use Rattle.math.specs.Range.{is_finite}
use Rattle.math.proofs.Choice.{and_both}
use Rattle.math.proofs.Fitting.{rounds-none}

pub equal-none : (s : Bool) (m : ℕ) (e : ℤ) → eq (fin s m e) zero_f ≡ true → m * up e ≡ 0
unfolding eq of_bits
equal-none s m e h =
    let a = m * up e * 1 in
    let b = 0 * 1 * down e in
    omega (arith, eqb-true a b (and_both (eqb a b) (beq s false || eqb a 0) h).0)

pub none_equal : (s : Bool) (m : ℕ) (e : ℤ) → m * up e ≡ 0 → eq (fin s m e) zero_f ≡ true
unfolding eq of_bits
none_equal s m e z = go s (eq-eqb (m * up e * 1) (0 * 1 * down e) (omega (arith, z))) (eq-eqb (m * up e * 1) 0 (omega (arith, z)))
  where
    go : (s : Bool) → eqb (m * up e * 1) (0 * 1 * down e) ≡ true → eqb (m * up e * 1) 0 ≡ true → eq (fin s m e) zero_f ≡ true
    go false h k = rw h
    go true h k = rw (h, k)

pub sub_self : (x : Float) → T (is_finite x) → x ⊖ x ≡ zero_f
unfolding sub neg add sum of_bits
sub_self nan h = absurd h
sub_self (inf s) h = absurd h
sub_self (fin true m e) h =
    let a = m * up e * down e in
    rw (le-ltb a a (omega arith)) (rounds-none binary32 false (a - a) (down e * down e) (omega arith) (mul-pos (down_pos e) (down_pos e)))
sub_self (fin false m e) h =
    let a = m * up e * down e in
    rw (le-ltb a a (omega arith)) (rounds-none binary32 false (a - a) (down e * down e) (omega arith) (mul-pos (down_pos e) (down_pos e)))

-- the sign of a product or a quotient by a float with its sign clear
pub unlike-clear : (s : Bool) → unlike s false ≡ s
unlike-clear true = refl
unlike-clear false = refl

-- a zero keeps its sign
pub either-zero-over : (s : Bool) (y : Float) → T (is_finite y) → T (lt zero_f y) → fin s 0 (pos 0) ⊘ y ≡ fin s 0 (pos 0)
unfolding div lt of_bits
either-zero-over s nan h k = absurd h
either-zero-over s (inf t) h k = absurd h
either-zero-over s (fin true m e) h k = absurd k
either-zero-over s (fin false zero e) h k = absurd (subst T (le-ltb (0 * 1 * down e) (0 * up e * 1) (omega arith)) k)
either-zero-over s (fin false (suc m) e) h k =
    rw (eqb-suc-zero m)
    (rounds-none binary32 (unlike s false) (0 * 1 * down e) (suc m * up e * 1) (omega arith) (mul-pos (mul-pos (zero-lt-suc m) (up_pos e)) (zero-lt-suc 0))
    ∙ ap (λ (t : Bool). fin t 0 (pos 0)) (unlike-clear s))

pub zero-over : (y : Float) → T (is_finite y) → T (lt zero_f y) → zero_f ⊘ y ≡ zero_f
unfolding of_bits
zero-over y h k = either-zero-over false y h k
