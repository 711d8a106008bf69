-- Floats that compare equal to a whole number: a zero of either sign is 0, and any other is that number with its sign clear. Assumes nothing.
use Rattle.std.proofs.Common.{◌≡◌, ℕ, ◌*◌, ◌<◌, ◌≤◌, true, false, T, eqb, ltb, sym, refl, ap, ◌∙◌, subst, ⊎_elim, true≢false, lt_irrefl, eq-zero-or-pos, mul-pos, mul-one, mul_right_comm, arith, eqb→eq, ltb-false, le-ltb, le-leb}
use mathlib.Core.Path.{subst⁻¹}
use native.Mathlib.Nat.{eq_of_mul-eq-mul_right}
use lib.Ieee.{Float, nan, inf, fin, up, down, lt, le, eq}
use lib.Ieee.Fits.{down_pos, and_l, and_r}
use Rattle.math.specs.Rounded.{zero_f}
use Rattle.math.specs.Range.{max_zero_of}
use Rattle.math.specs.Whole.{Is}
use Rattle.math.proofs.Choice.{by-test}
use Rattle.math.proofs.Order.{equal-le, not-lt-of-le, le-chain}
use Rattle.math.proofs.Wholes.{zero_is, lt-is, le_is}

-- from a / (E * D) = b / (E * D), where b / D is n, to a
module _ (a b n E D : ℕ) (Dpos : 0 < D) (v : b * 1 ≡ n * D) (h : a * D ≡ b * E) where
  same-value : a * 1 ≡ n * E
  same-value = eq_of_mul-eq-mul_right D Dpos (a * 1) (n * E) (ap (λ (z : ℕ). z * D) (mul-one a) ∙ h ∙ ap (λ (z : ℕ). z * E) (sym (mul-one b) ∙ v) ∙ mul_right_comm n D E)

  some-value : 1 ≤ n → 0 < E → a * D ≡ 0 → ⊥
  some-value l Epos z =
      let q : 0 < n * D * E = mul-pos (mul-pos l Dpos) Epos in
      let r : n * D * E ≡ 0 = ap (λ (z : ℕ). z * E) (sym v ∙ mul-one b) ∙ sym h ∙ z in
      lt_irrefl 0 (subst (λ (z : ℕ). 0 < z) r q)

-- what equals a z that is n, above 0, is n
pub equal_is : (x z : Float) (n : ℕ) → Is z n → 1 ≤ n → T (eq x z) → Is x n
unfolding eq
equal_is nan z n v l h = absurd h
equal_is (inf s) nan n v l h = absurd v
equal_is (inf s) (inf t) n v l h = absurd v
equal_is (inf s) (fin t k d) n v l h = absurd h
equal_is (fin s m e) nan n v l h = absurd v
equal_is (fin s m e) (inf t) n v l h = absurd v
equal_is (fin s m e) (fin true k d) n v l h = absurd (true≢false v.0)
equal_is (fin false m e) (fin false k d) n v l h =
    (refl, same-value (m * up e) (k * up d) n (down e) (down d) (down_pos d) v.1 (eqb→eq (m * up e * down d) (k * up d * down e) (and_l (eqb (m * up e * down d) (k * up d * down e)) true h)))
equal_is (fin true m e) (fin false k d) n v l h =
    let a = m * up e * down d in
    let b = k * up d * down e in
    absurd (some-value (m * up e) (k * up d) n (down e) (down d) (down_pos d) v.1 (eqb→eq a b (and_l (eqb a b) (eqb a 0) h)) l (down_pos e) (eqb→eq a 0 (and_r (eqb a b) (eqb a 0) h)))

-- what equals a z that is n is above 0 exactly where n is
pub equal-above : (x z : Float) (n : ℕ) → Is z n → T (eq x z) → lt zero_f x ≡ ltb 0 n
equal-above x z n v h = ⊎_elim none (λ l. lt-is zero_f x 0 n zero_is (equal_is x z n v l h)) (eq-zero-or-pos n)
  where
    none : n ≡ 0 → lt zero_f x ≡ ltb 0 n
    none q =
        let l : n ≤ 0 = omega arith in
        let low : T (le z zero_f) = subst⁻¹ T (le_is z zero_f n 0 v zero_is ∙ le-leb n 0 l) tt in
        not-lt-of-le x zero_f (le-chain x z zero_f (equal-le x z h) low) ∙ sym (le-ltb 0 n l)

-- max with 0 changes no whole number
pub max-zero-is : (x : Float) (n : ℕ) → Is x n → Is (max_zero_of x) n
max-zero-is x n v = by-test (λ (z : Float). Is z n) (lt zero_f x) x zero_f (λ _. v) (λ h. none (ltb-false 0 n (sym (lt-is zero_f x 0 n zero_is v) ∙ h)))
  where
    none : n ≤ 0 → Is zero_f n
    none h = let q : 0 ≡ n = omega arith in subst (λ (k : ℕ). Is zero_f k) q zero_is
