-- Walks along the first n elements of a list, from the front, and how many frames pass a test. Assumes nothing.
use Prim.Native.Nat.{ℕ, zero, suc, ◌+◌, ◌<◌, ◌≤◌}
use mathlib.Core.Path.{◌≡◌, refl, sym, ap, ◌∙◌}
use mathlib.Core.Bool.{Bool, true, false}
use mathlib.Core.List.{List, [], ◌∷◌}
use native.Mathlib.Numerals.{add-one}
use native.Mathlib.Omega.{arith}
use lib.ListN.{length, take, drop, get_or}
use lib.Seq.{drop-cons, get_or-take, length-take-le, drop-length}
use Rattle.math.proofs.Choice.{by-test}
use mir.Val.{Val}
use denote.Laws.{Is}
use denote.Array.{Array}
use denote.Struct.Declared.{row}
use Rattle.frames.specs.declared.frame.Keyframe.{Keyframe}
use Rattle.frames.specs.contracts.frame.Keyframe as keyframe
use Rattle.frames.specs.Limits.{no_frame}
use Rattle.frames.specs.Sampling.{leading}

-- an array of 64 frames has 64 places
pub array_long : (fs : List Keyframe) (vs : List Val) → Is (Array (row keyframe.the_type) 64) fs vs → length fs ≡ 64
array_long fs vs h = h.1.0.1

module _ {A : Type 0} (l : List A) (n : ℕ) (fit : n ≤ length l) where
  -- what is left from i on is the element at i and those after it
  pub front : (d : A) (i : ℕ) → i < n → drop i (take n l) ≡ get_or l i d ∷ drop (i + 1) (take n l)
  front d i h =
      let r : i < length (take n l) = omega (arith, length-take-le n l fit) in
      rw (add-one, drop-cons (take n l) i d r, get_or-take n l i d h)

  pub back : drop n (take n l) ≡ []
  back =
      let e : length (take n l) ≡ n = length-take-le n l fit in
      ap (λ (k : ℕ). drop k (take n l)) (sym e) ∙ drop-length (take n l)

module _ (fs : List Keyframe) (n : ℕ) (fit : n ≤ length fs) where
  module _ (q : Keyframe → Bool) where
    pub lead-yes : (i : ℕ) → i < n → q (get_or fs i no_frame) ≡ true → leading q (drop i (take n fs)) ≡ suc (leading q (drop (i + 1) (take n fs)))
    unfolding leading
    lead-yes i h e = rw (front fs n fit no_frame i h, e)

    pub lead-no : (i : ℕ) → i < n → q (get_or fs i no_frame) ≡ false → leading q (drop i (take n fs)) ≡ 0
    unfolding leading
    lead-no i h e = rw (front fs n fit no_frame i h, e)

    pub lead-end : leading q (drop n (take n fs)) ≡ 0
    unfolding leading
    lead-end = rw (back fs n fit)

-- m frames pass and the next, if there is one, does not
pub lead_is : (q : Keyframe → Bool) (l : List Keyframe) (m : ℕ) → m ≤ length l → ((j : ℕ) → j < m → q (get_or l j no_frame) ≡ true)
    → (m < length l → q (get_or l m no_frame) ≡ false)
    → leading q l ≡ m
unfolding leading
lead_is q [] zero h all next = refl
lead_is q [] (suc m) h all next = absurd (omega (arith, h))
lead_is q (k ∷ ks) zero h all next = rw (next (omega arith))
lead_is q (k ∷ ks) (suc m) h all next = rw (all 0 (omega arith)) (ap suc (lead_is q ks m (omega (arith, h)) (λ j b. all (suc j) (omega (arith, b))) (λ b. next (omega (arith, b)))))

-- at least one passes where the first does; none from one that fails on
pub lead-some : (q : Keyframe → Bool) (l : List Keyframe) → 0 < length l → q (get_or l 0 no_frame) ≡ true → 0 < leading q l
unfolding leading
lead-some q [] h e = absurd (omega (arith, h))
lead-some q (k ∷ ks) h e = rw e (omega arith)

pub lead-below : (q : Keyframe → Bool) (l : List Keyframe) (i : ℕ) → i < length l → q (get_or l i no_frame) ≡ false → leading q l ≤ i
unfolding leading
lead-below q [] i h e = absurd (omega (arith, h))
lead-below q (k ∷ ks) zero h e = rw e (omega arith)
lead-below q (k ∷ ks) (suc i) h e =
    let r = lead-below q ks i (omega (arith, h)) e in
    by-test (λ (m : ℕ). m ≤ suc i) (q k) (suc (leading q ks)) 0 (λ _. omega (arith, r)) (λ _. omega arith)
