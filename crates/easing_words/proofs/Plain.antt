-- Kinds that have a curve and no parameters: what a number that is none of theirs says, and that their parameters are not looked at. Assumes nothing.
use Prim.Native.Nat.{ℕ}
use mathlib.Core.Path.{◌≡◌, refl, sym, ◌∙◌}
use mathlib.Core.Bool.{Bool, true, false, not, ◌||◌, false≢true}
use mathlib.Core.List.{List, [], ◌∷◌}
use lib.Dec.{eqb}
use lib.ListN.{length}
use lib.Ieee.{nan}
use borrow.Author.Tests.{ltb-true, eqb-true, not-true}
use Rattle.math.proofs.Choice.{and_both}
use Rattle.easing.specs.declared.params.Params.{Params}
use Rattle.easing.specs.Kinds.{number_of, all_named}
use Rattle.easing.specs.Params.{no_params, params_of, with_params, of_number}
use Rattle.easing.specs.Apply.{fits_record_of}
use Rattle.easing.proofs.Tags.{among, seven, told, each_below}
use Rattle.words.specs.Kinds.{words, is_kind, easing_from}
use Rattle.words.specs.Tracks.{easing_in}
use Rattle.words.specs.Sampling.{plain_kind, easing_fits}
use Rattle.words.proofs.Fitting.{plain_fits}

pub plain_known : (k : ℕ) → plain_kind k ≡ true → is_kind k ≡ true
unfolding easing_fits
plain_known k h =
    let w = words k nan nan nan nan 0 in
    (and_both (is_kind k) (fits_record_of (easing_in (easing_from w))) (plain_fits w h)).0

-- what holds of every plain kind
each-plain : (f : ℕ → Bool) → ((k : ℕ) → is_kind k ≡ true → not (plain_kind k) || f k ≡ true) → (k : ℕ) → plain_kind k ≡ true → f k ≡ true
each-plain f all k h = rw h at (all k (plain_known k h))

-- the keys of the arms, the last first
abbrev keys : List ℕ
keys = 30 ∷ 29 ∷ 28 ∷ 24 ∷ 23 ∷ 22 ∷ 21 ∷ 20 ∷ 19 ∷ 12 ∷ 11 ∷ 10 ∷ 9 ∷ 8 ∷ 7 ∷ 6 ∷ 5 ∷ 4 ∷ 3 ∷ 2 ∷ 1 ∷ 0 ∷ []

-- what the last arm is told
abbrev NoneOf : List ℕ → ℕ → Type 0
NoneOf [] x = Unit {0}
NoneOf (k ∷ ks) x = NoneOf ks x × (x ≡ k → ⊥)

none_of : (ks : List ℕ) (x : ℕ) → NoneOf ks x → among ks x ≡ true → ⊥
none_of [] x r h = false≢true h
none_of (k ∷ ks) x r h = go (eqb x k) refl h (none_of ks x r.0)
  where
    go : (b : Bool) → eqb x k ≡ b → b || among ks x ≡ true → (among ks x ≡ true → ⊥) → ⊥
    go true e h later = r.1 (eqb-true x k e)
    go false e h later = later h

pub rest_plain : (k : ℕ) → NoneOf keys k → plain_kind k ≡ false
rest_plain k r = go (plain_kind k) refl
  where
    go : (b : Bool) → plain_kind k ≡ b → b ≡ false
    go false e = refl
    go true e =
        absurd
        (none_of keys k r
        (each-plain (among keys) (λ i h. each_below (length all_named) (λ j. not (plain_kind j) || among keys j) refl i (ltb-true i (length all_named) h)) k e))

module _ (k : ℕ) (p : Params) (h : plain_kind k ≡ true) where
  number : number_of (of_number k p) ≡ k
  unfolding with_params
  number =
      eqb-true (number_of (of_number k p)) k
      (each-plain (λ i. eqb (number_of (of_number i p)) i) (λ i b. each_below (length all_named) (λ j. not (plain_kind j) || eqb (number_of (of_number j p)) j) refl i (ltb-true i (length all_named) b)) k h)

  few : among seven k ≡ false
  few = not-true (among seven k) (each-plain (λ i. not (among seven i)) (λ i b. each_below (length all_named) (λ j. not (plain_kind j) || not (among seven j)) refl i (ltb-true i (length all_named) b)) k h)

  pub no-search : eqb (number_of (of_number k p)) 31 ≡ false
  no-search = rw number (not-true (eqb k 31) (each-plain (λ i. not (eqb i 31)) (λ i b. each_below (length all_named) (λ j. not (plain_kind j) || not (eqb j 31)) refl i (ltb-true i (length all_named) b)) k h))

  none : params_of (of_number k p) ≡ no_params
  none = (told (of_number k p)).plain (rw number few)

  -- the parameters are not looked at
  pub any-params : of_number k p ≡ of_number k no_params
  any-params = sym (told (of_number k p)).back ∙ rw (number, none) refl
