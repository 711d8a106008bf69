-- The frames and the head of a track's words once a row is among them. Assumes nothing.
use Prim.Native.Nat.{ℕ, suc, ◌+◌, ◌-◌, ◌*◌, ◌<◌, ◌≤◌}
use native.Mathlib.Nat.{zero-add}
use native.Mathlib.Omega.{arith}
use mathlib.Core.Path.{◌≡◌, ◌∙◌}
use mathlib.Core.List.{List, ◌++◌}
use lib.ListN.{length, take, drop, get_or-append}
use lib.Seq.{get_or-append-add, get_or-drop, get_or-take, length-slice}
use Rattle.math.specs.Lists.{firsts}
use Rattle.words.specs.declared.tracks.LaxKeyframe.{LaxKeyframe}
use Rattle.words.specs.Lent.{word_at, frame_at}
use Rattle.track_words.specs.Pushing.{count_into, over, row_of}
use Rattle.track_words.proofs.Moved.{counted-other, counted-count, counted-complete, frame-alike}
use Rattle.track_words.proofs.Over.{over-long, over-before, over-at, over-behind}
use Rattle.track_words.proofs.Placed.{firsts_at}

-- the words of n frames, the one at p replaced
abbrev pub replacing : List ℕ → List ℕ → ℕ → ℕ → List ℕ
replacing words row n p = count_into (over words (8 * p) (row_of row)) n

-- the words of n frames and one more, at p
abbrev pub inserting : List ℕ → List ℕ → ℕ → ℕ → List ℕ
inserting words row n p = count_into (over words (8 * p) (row_of row ++ drop (8 * p) (take (8 * n) words))) (n + 1)

-- the words of the frame at place i
abbrev pub words_in : List ℕ → ℕ → LaxKeyframe
words_in words i = frame_at words (8 * i)

row_word : (row : List ℕ) (m : ℕ) → m < 8 → word_at (row_of row) m ≡ word_at row m
unfolding firsts
row_word row m h = firsts_at (word_at row) 8 m 0 h

-- the same words are the same frame
alike : (v w : List ℕ) (i j : ℕ) → ((m : ℕ) → m < 8 → word_at v (8 * i + m) ≡ word_at w (8 * j + m)) → words_in v i ≡ words_in w j
alike v w i j h = frame-alike v w (8 * i) (8 * j) h

-- w differs from the words that came in the frames, the count and complete
pub record Headed (words w : List ℕ) (n : ℕ) : Type 0 where
  pub count : word_at w 512 ≡ n
  pub complete : word_at w 517 ≡ 0
  pub kept : (x : ℕ) → 512 < x → x < 517 → word_at w x ≡ word_at words x

module _ (words row : List ℕ) (long : length words ≡ 518) (n p : ℕ) where
  module _ (few : n ≤ 64) (below : p < n) where
    abbrev put : List ℕ
    put = over words (8 * p) (row_of row)

    pub replaced-front : (i : ℕ) → i < p → words_in (replacing words row n p) i ≡ words_in words i
    replaced-front i h =
        alike (replacing words row n p) words i i
        (λ m l. counted-other put n (8 * i + m) (λ e. omega (arith, e, l)) (λ e. omega (arith, e, l)) ∙ over-before words (8 * p) (row_of row) (8 * i + m) (omega (arith, l)))

    pub replaced-back : (j : ℕ) → suc p + j < n → words_in (replacing words row n p) (p + suc j) ≡ words_in words (suc p + j)
    replaced-back j h =
        let e : p + suc j ≡ suc p + j = omega arith in
        rw e
        (alike (replacing words row n p) words (suc p + j) (suc p + j)
        (λ m l. counted-other put n (8 * (suc p + j) + m) (λ e. omega (arith, e, l)) (λ e. omega (arith, e, l)) ∙ over-behind words (8 * p) (row_of row) (8 * (suc p + j) + m) (omega (arith, l))))

    pub replaced-here : words_in (replacing words row n p) p ≡ words_in row 0
    replaced-here =
        alike (replacing words row n p) row p 0
        (λ m l.
        rw (zero-add m)
        (counted-other put n (8 * p + m) (λ e. omega (arith, e, l)) (λ e. omega (arith, e, l))
        ∙ (over-at words (8 * p) (row_of row) m (omega (arith, l)) l ∙ row_word row m l)))

    pub replaced-head : Headed words (replacing words row n p) n
    replaced-head =
        let fit = over-long words (8 * p) (row_of row) in
        record {
          count = counted-count put n (omega (arith, fit));
          complete = counted-complete put n (omega (arith, fit));
          kept =
              λ x l h. counted-other put n x (λ e. omega (arith, e, l)) (λ e. omega (arith, e, h))
              ∙ over-behind words (8 * p) (row_of row) x (omega (arith, l));
        }

  module _ (room : n < 64) (low : p ≤ n) where
    abbrev back : List ℕ
    back = drop (8 * p) (take (8 * n) words)

    abbrev all : List ℕ
    all = over words (8 * p) (row_of row ++ back)

    back_long : length (drop (8 * p) (take (8 * n) words)) ≡ 8 * n - 8 * p
    back_long = length-slice (8 * p) (8 * n) words (omega arith)

    pub inserted-front : (i : ℕ) → i < p → words_in (inserting words row n p) i ≡ words_in words i
    inserted-front i h =
        alike (inserting words row n p) words i i
        (λ m l. counted-other all (n + 1) (8 * i + m) (λ e. omega (arith, e, l)) (λ e. omega (arith, e, l)) ∙ over-before words (8 * p) (row_of row ++ back) (8 * i + m) (omega (arith, l)))

    pub inserted-here : words_in (inserting words row n p) p ≡ words_in row 0
    inserted-here =
        alike (inserting words row n p) row p 0
        (λ m l.
        rw (zero-add m)
        (counted-other all (n + 1) (8 * p + m) (λ e. omega (arith, e, l)) (λ e. omega (arith, e, l))
        ∙ (over-at words (8 * p) (row_of row ++ back) m (omega (arith, l)) (omega (arith, l)) ∙ (get_or-append (row_of row) back 0 m l ∙ row_word row m l))))

    pub inserted-back : (j : ℕ) → p + j < n → words_in (inserting words row n p) (p + suc j) ≡ words_in words (p + j)
    inserted-back j h =
        alike (inserting words row n p) words (p + suc j) (p + j)
        (λ m l.
        let i = 8 * j + m in
        let e : 8 * (p + suc j) + m ≡ 8 * p + (8 + (8 * j + m)) = omega arith in
        let f : 8 * p + (8 * j + m) ≡ 8 * (p + j) + m = omega arith in
        rw e
        (counted-other all (n + 1) (8 * p + (8 + i)) (λ s. omega (arith, s, l)) (λ s. omega (arith, s, l))
        ∙ (over-at words (8 * p) (row_of row ++ back) (8 + i) (omega (arith, l)) (omega (arith, l, back_long))
        ∙ (get_or-append-add (row_of row) back i 0 ∙ (get_or-drop (8 * p) (take (8 * n) words) i 0 ∙ rw f (get_or-take (8 * n) words (8 * (p + j) + m) 0 (omega (arith, l))))))))

    pub inserted-head : Headed words (inserting words row n p) (n + 1)
    inserted-head =
        let fit = over-long words (8 * p) (row_of row ++ back) in
        record {
          count = counted-count all (n + 1) (omega (arith, fit));
          complete = counted-complete all (n + 1) (omega (arith, fit));
          kept =
              λ x l h. counted-other all (n + 1) x (λ e. omega (arith, e, l)) (λ e. omega (arith, e, h))
              ∙ over-behind words (8 * p) (row_of row ++ back) x (omega (arith, l, back_long));
        }
