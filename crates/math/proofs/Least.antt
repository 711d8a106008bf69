-- The least float above 0: an f32 is above 0 exactly where it is at least that. Assumes nothing.
use Rattle.std.proofs.Common.{◌≡◌, ℕ, zero, suc, ◌*◌, ◌^◌, ◌<◌, ◌≤◌, Bool, true, false, T, ℤ, sym, refl, ◌∙◌, true≢false, le_trans, le_of_eq, le_refl, lt_irrefl, zero-lt-suc, mul-le-mul, mul-pos, one-mul, arith, pow_pos, ltb-true}
use mathlib.Core.Path.{subst⁻¹}
use lib.Ieee.{Float, nan, inf, fin, binary32, up, down, fits, of_bits, lt, le}
use lib.Ieee.Fits.{up_pos, down_pos}
use lib.Ieee.Bits.{is_true}
use lib.Ieee.Order.{le_of_values}
use Rattle.math.specs.Rounded.{f32, zero_f}
use Rattle.math.proofs.Fitting.{fine-grained}
use Rattle.math.proofs.Order.{lt-le-chain}
use Rattle.math.proofs.Ordered.{below, plain}

-- a / d is at least 1 / p where d is at most p and there is an a
shared : (a d p : ℕ) → 0 < a → d ≤ p → 1 * d ≤ a * p
shared a d p h l = le_trans (le_of_eq (one-mul d)) (le_trans l (le_trans (le_of_eq (sym (one-mul p))) (mul-le-mul {n₁ = 1} {m₁ = p} h (le_refl p))))

some : (m : ℕ) (e : ℤ) → T (fits binary32 (fin false (suc m) e)) → le (f32 1) (fin false (suc m) e) ≡ true
some m e t =
    is_true _
    (le_of_values (f32 1) (fin false (suc m) e) 1 (2 ^ 149) (suc m * up e) (down e) (pow_pos 149) (down_pos e) (plain 1 (omega arith)) (refl, refl)
    (shared (suc m * up e) (down e) (2 ^ 149) (mul-pos (zero-lt-suc m) (up_pos e)) (fine-grained binary32 false m e t)))

none : (e : ℤ) → lt zero_f (fin false 0 e) ≡ true → ⊥
unfolding lt of_bits
none e h = lt_irrefl 0 (omega (arith, ltb-true (0 * 1 * down e) (0 * up e * 1) h))

reached : (x : Float) → T (fits binary32 x) → lt zero_f x ≡ true → le (f32 1) x ≡ true
unfolding lt le of_bits
reached nan t h = absurd (true≢false (sym h))
reached (inf true) t h = absurd (true≢false (sym h))
reached (inf false) t h = refl
reached (fin true m e) t h = absurd (true≢false (sym h))
reached (fin false zero e) t h = absurd (none e h)
reached (fin false (suc m) e) t h = some m e t

pub from-least : (x : Float) → T (fits binary32 x) → le (f32 1) x ≡ lt zero_f x
from-least x t = go (le (f32 1) x) (lt zero_f x) refl refl
  where
    go : (a b : Bool) → le (f32 1) x ≡ a → lt zero_f x ≡ b → a ≡ b
    go true true p q = refl
    go false false p q = refl
    go true false p q = sym (is_true _ (lt-le-chain zero_f (f32 1) x (subst⁻¹ T (below 0 1 (omega arith) (omega arith)) tt) (subst⁻¹ T p tt))) ∙ q
    go false true p q = sym p ∙ reached x t q
