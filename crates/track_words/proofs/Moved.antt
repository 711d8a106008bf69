-- The words of a push: what its loops write, as words over others, and the count. Assumes nothing.
use Prim.Native.Nat.{ℕ, zero, suc, ◌+◌, ◌-◌, ◌<◌, ◌≤◌}
use native.Mathlib.Nat.{add_assoc, add-zero, sub-zero, suc-add}
use native.Mathlib.Omega.{arith}
use mathlib.Core.Path.{◌≡◌, refl, sym, ◌∙◌}
use mathlib.Core.Bool.{Bool, true, false}
use mathlib.Core.List.{List, ◌∷◌, ◌++◌}
use lib.Dec.{ltb}
use lib.ListN.{length, length-set, length-take, take, drop, set}
use lib.Seq.{drop-cons, get_or-set_same, get_or-set_other, get_or-take, slice_empty}
use borrow.Author.Tests.{ltb-true, ltb-false}
use Rattle.math.specs.Lists.{firsts}
use Rattle.words.specs.Lent.{word_at, frame_at}
use Rattle.track_words.specs.Inner.{raised_by, row_into}
use Rattle.track_words.specs.Pushing.{count_into, over, row_of}
use Rattle.track_words.proofs.Over.{over_none, over-before, over-beyond, over_last, over_first, over-over}
use Rattle.track_words.proofs.Placed.{length-firsts}

-- a row in its places
module _ (words : List ℕ) (at : ℕ) (row : List ℕ) where
  row_is : (n : ℕ) → row_into words at row n ≡ over words at (firsts (word_at row) n)
  unfolding row_into firsts
  row_is zero = sym (over_none words at)
  row_is (suc n) = rw (row_is n) (rw (length-firsts (word_at row) n) at (over_last words at (firsts (word_at row) n) (word_at row n)))

  pub row-over : row_into words at row 8 ≡ over words at (row_of row)
  unfolding firsts
  row-over = row_is 8

-- words that go eight places up
module _ (words : List ℕ) (high : ℕ) where
  one_up : (i : ℕ) → i < high → let w = over words (suc (i + 8)) (drop (suc i) (take high words)) in set w (i + 8) (word_at w i) ≡ over words (i + 8) (drop i (take high words))
  one_up i h =
      let new = drop (suc i) (take high words) in
      rw (over-before words (suc (i + 8)) new i (omega arith), over_first words (i + 8) new (word_at words i)) (go (ltb i (length words)) refl)
    where
      go : (b : Bool) → ltb i (length words) ≡ b → over words (i + 8) (word_at words i ∷ drop (suc i) (take high words)) ≡ over words (i + 8) (drop i (take high words))
      go true e =
          let l = ltb-true i (length words) e in
          rw (drop-cons (take high words) i 0 (omega (arith, length-take high words)), get_or-take high words i 0 h) refl
      go false e =
          let l : length words ≤ i + 8 = omega (arith, ltb-false i (length words) e) in
          rw (over-beyond words (i + 8) (word_at words i ∷ drop (suc i) (take high words)) l, over-beyond words (i + 8) (drop i (take high words)) l) refl

  raised_is : (n : ℕ) → n ≤ high → raised_by words high n ≡ over words (high - n + 8) (drop (high - n) (take high words))
  unfolding raised_by
  raised_is zero h = rw (sub-zero high, slice_empty high words) (sym (over_none words (high + 8)))
  raised_is (suc n) h =
      let i = high - suc n in
      let e : high - n ≡ suc (high - suc n) = omega arith in
      let f : suc (high - suc n) + 8 ≡ suc (high - suc n + 8) = suc-add i 8 in
      rw (raised_is n (omega arith), e, f) (one_up i (omega arith))

  raised-over : (low : ℕ) → low ≤ high → raised_by words high (high - low) ≡ over words (low + 8) (drop low (take high words))
  raised-over low h =
      let e : high - (high - low) ≡ low = omega arith in
      rw e at (raised_is (high - low) (omega arith))

-- a row in front of the words that go up for it
pub insert-over : (words row : List ℕ) (low high : ℕ) → low ≤ high → row_into (raised_by words high (high - low)) low row 8 ≡ over words low (row_of row ++ drop low (take high words))
insert-over words row low high h = rw (raised-over words high low h, row-over (over words (low + 8) (drop low (take high words))) low row) (over-over words low (row_of row) (drop low (take high words)))

-- a count in its place, and complete cleared
module _ (words : List ℕ) (n : ℕ) where
  pub counted-other : (x : ℕ) → (x ≡ 512 → ⊥) → (x ≡ 517 → ⊥) → word_at (count_into words n) x ≡ word_at words x
  counted-other x a b = get_or-set_other (set words 512 n) 517 x 0 0 b ∙ get_or-set_other words 512 x n 0 a

  pub counted-count : 512 < length words → word_at (count_into words n) 512 ≡ n
  counted-count h = get_or-set_other (set words 512 n) 517 512 0 0 (λ e. omega (arith, e)) ∙ get_or-set_same words 512 n 0 h

  pub counted-complete : 517 < length words → word_at (count_into words n) 517 ≡ 0
  counted-complete h = get_or-set_same (set words 512 n) 517 0 0 (omega (arith, length-set words 512 n))

-- eight words that are the same are the same frame
pub frame-alike : (v w : List ℕ) (i j : ℕ) → ((m : ℕ) → m < 8 → word_at v (i + m) ≡ word_at w (j + m)) → frame_at v i ≡ frame_at w j
unfolding frame_at
frame-alike v w i j h =
    let a : word_at v i ≡ word_at w j = rw (add-zero i, add-zero j) at (h 0 (omega arith)) in
    let b : (m : ℕ) → m < 6 → word_at v (i + 2 + m) ≡ word_at w (j + 2 + m) = λ m l. rw (add_assoc i 2 m, add_assoc j 2 m) (h (2 + m) (omega (arith, l))) in
    rw (a, h 1 (omega arith), h 2 (omega arith), b 1 (omega arith), b 2 (omega arith), b 3 (omega arith), b 4 (omega arith), b 5 (omega arith)) refl
