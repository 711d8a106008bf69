-- What the tests of a record say of it. Assumes nothing.
use Rattle.std.proofs.Common.{◌≡◌, ℕ, Bool, true, false, cond, not, ◌||◌, T, eqb, ltb, leb, List, sym, refl, ◌∙◌, eq-eqb, ne_eqb, leb-false}
use mathlib.Core.Bool.{false≢true}
use lib.Ieee.{binary32, nan_bits}
use Rattle.reader.specs.Records.{kind_in, zero_in, bits_in, step_in, is_step, is_wrong}
use Rattle.reader.proofs.Patterns.{wrong-step, no_nan}

found : (a b c d : Bool) → (a || b) || c ≡ true → true ≡ (a || b || c || d)
found true b c d h = refl
found false true c d h = refl
found false false true d h = refl
found false false false d h = absurd (false≢true h)

left : (a b c d : Bool) → (a || b) || c ≡ false → d ≡ (a || b || c || d)
left true b c d h = absurd (false≢true (sym h))
left false true c d h = absurd (false≢true (sym h))
left false false true d h = absurd (false≢true (sym h))
left false false false d h = refl

last-false : (a b c d : Bool) → (a || b || c || d) ≡ false → d ≡ false
last-false true b c d h = absurd (false≢true (sym h))
last-false false true c d h = absurd (false≢true (sym h))
last-false false false true d h = absurd (false≢true (sym h))
last-false false false false d h = h

-- what is asked of the step's bits
abbrev asked : List ℕ → Bool
asked r = cond (eqb (kind_in r) 1) (not (is_step (step_in r))) (not (eqb (bits_in r) 0))

module _ (r : List ℕ) where
  asked-step : kind_in r ≡ 1 → asked r ≡ not (is_step (step_in r))
  asked-step k = rw (eq-eqb (kind_in r) 1 k) refl

  asked-other : (kind_in r ≡ 1 → ⊥) → asked r ≡ not (eqb (bits_in r) 0)
  asked-other k = rw (ne_eqb (kind_in r) 1 k) refl

  pub wrong-kind : (ltb (kind_in r) 1 || ltb 4 (kind_in r)) || not (eqb (zero_in r) 0) ≡ true → true ≡ is_wrong r
  unfolding is_wrong
  wrong-kind = found (ltb (kind_in r) 1) (ltb 4 (kind_in r)) (not (eqb (zero_in r) 0)) (asked r)

  wrong-bits : (ltb (kind_in r) 1 || ltb 4 (kind_in r)) || not (eqb (zero_in r) 0) ≡ false → asked r ≡ is_wrong r
  unfolding is_wrong
  wrong-bits = left (ltb (kind_in r) 1) (ltb 4 (kind_in r)) (not (eqb (zero_in r) 0)) (asked r)

  pub step-bits : (ltb (kind_in r) 1 || ltb 4 (kind_in r)) || not (eqb (zero_in r) 0) ≡ false → kind_in r ≡ 1 → leb 0x7f80_0000 (bits_in r) ≡ is_wrong r
  step-bits h k = wrong-step (bits_in r) ∙ (sym (asked-step k) ∙ wrong-bits h)

  pub other-bits : (ltb (kind_in r) 1 || ltb 4 (kind_in r)) || not (eqb (zero_in r) 0) ≡ false → (kind_in r ≡ 1 → ⊥) → not (eqb (bits_in r) 0) ≡ is_wrong r
  other-bits h k = sym (asked-other k) ∙ wrong-bits h

  right-bits : is_wrong r ≡ false → asked r ≡ false
  unfolding is_wrong
  right-bits = last-false (ltb (kind_in r) 1) (ltb 4 (kind_in r)) (not (eqb (zero_in r) 0)) (asked r)

  -- the step of a record that is not wrong has a pattern that can be read
  pub right-step : kind_in r ≡ 1 → is_wrong r ≡ false → T (not (nan_bits binary32 (bits_in r)))
  right-step k h = no_nan (bits_in r) (leb-false 0x7f80_0000 (bits_in r) (wrong-step (bits_in r) ∙ (sym (asked-step k) ∙ right-bits h)))
