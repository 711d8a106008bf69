-- The cases of a row that is put among a track's words. Assumes nothing.
use Prim.Native.Nat.{ℕ, suc, ◌+◌, ◌-◌, ◌*◌, ◌<◌, ◌≤◌}
use native.Mathlib.Omega.{arith}
use mathlib.Core.Path.{◌≡◌, refl, ap, ◌∙◌}
use mathlib.Core.Bool.{Bool, true, false, cond, ◌&&◌, ◌||◌}
use mathlib.Core.List.{List, [], ◌∷◌}
use lib.Dec.{leb, ltb}
use lib.ListN.{length, take, get_or}
use lib.Seq.{get_or-take, length-take-le}
use lib.Ieee.{lt, eq}
use borrow.Author.Tests.{le-leb, lt-ltb, le-ltb, ltb-true, ltb-false}
use Rattle.math.proofs.Choice.{of-picked}
use Rattle.frames.specs.declared.frame.Keyframe.{Keyframe}
use Rattle.frames.specs.Inner.{earlier_of}
use Rattle.frames.specs.Limits.{no_frame}
use Rattle.frames.specs.Pushing.{pushed_of}
use Rattle.frames.specs.Sampling.{leading}
use Rattle.words.specs.Lent.{word_at, float_at, frame_at}
use Rattle.words.specs.Tracks.{frame_from}
use Rattle.track_words.specs.Reading.{frame_in, frames_of}
use Rattle.track_words.specs.Inner.{raised_by, row_into}
use Rattle.track_words.specs.Pushing.{count_into, has_room, place_of, push_into, replaces}
use Rattle.track_words.proofs.Moved.{row-over, insert-over}
use Rattle.track_words.proofs.Placed.{frames-long, frame-at}

module _ (words row : List ℕ) where
  module _ (below : place_of words row < word_at words 512) (same : eq (float_at words (8 * place_of words row)) (float_at row 0) ≡ true) where
    pub same-room : true ≡ has_room words row
    same-room = rw (lt-ltb (place_of words row) (word_at words 512) below, same) refl

    pub same-words : count_into (row_into words (8 * place_of words row) row 8) (word_at words 512) ≡ push_into words row
    unfolding push_into
    same-words = rw (row-over words (8 * place_of words row) row, lt-ltb (place_of words row) (word_at words 512) below, same) refl

  pub other-time : eq (float_at words (8 * place_of words row)) (float_at row 0) ≡ false → replaces words row ≡ false
  other-time e = rw e (go (ltb (place_of words row) (word_at words 512)))
    where
      go : (b : Bool) → b && false ≡ false
      go true = refl
      go false = refl

  pub other-end : word_at words 512 ≤ place_of words row → replaces words row ≡ false
  other-end h = rw (le-ltb (place_of words row) (word_at words 512) h) refl

  module _ (other : replaces words row ≡ false) where
    pub new-room : word_at words 512 < 64 → true ≡ has_room words row
    new-room h = rw (other, lt-ltb (word_at words 512) 64 h) refl

    pub new-words : place_of words row ≤ word_at words 512
        → count_into (row_into (raised_by words (8 * word_at words 512) (8 * word_at words 512 - 8 * place_of words row)) (8 * place_of words row) row 8) (word_at words 512 + 1) ≡ push_into words row
    unfolding push_into
    new-words low = rw (insert-over words row (8 * place_of words row) (8 * word_at words 512) (omega (arith, low)), other) refl

    pub no_room : 64 ≤ word_at words 512 → false ≡ has_room words row
    no_room h = rw (other, le-ltb (word_at words 512) 64 h) refl

one_more : (a b : ℕ) → ltb (suc a) (suc b) ≡ ltb a b
one_more a b = go (ltb a b) refl
  where
    go : (t : Bool) → ltb a b ≡ t → ltb (suc a) (suc b) ≡ t
    go true e = lt-ltb (suc a) (suc b) (omega (arith, ltb-true a b e))
    go false e = le-ltb (suc a) (suc b) (omega (arith, ltb-false a b e))

-- how many frames there are then
pushed-length : (k : Keyframe) (l : List Keyframe)
    → length (pushed_of k l) ≡ cond (ltb (earlier_of k.time l) (length l) && eq (get_or l (earlier_of k.time l) no_frame).time k.time) (length l) (suc (length l))
unfolding pushed_of leading
pushed-length k [] = refl
pushed-length k (f ∷ fs) = go (pushed-length k fs) (lt f.time k.time)
  where
    go : length (pushed_of k fs) ≡ cond (ltb (earlier_of k.time fs) (length fs) && eq (get_or fs (earlier_of k.time fs) no_frame).time k.time) (length fs) (suc (length fs))
        → (b : Bool)
        → length (cond b (f ∷ pushed_of k fs) (cond (eq f.time k.time) (k ∷ fs) (k ∷ f ∷ fs)))
        ≡ cond (ltb (cond b (suc (earlier_of k.time fs)) 0) (suc (length fs)) && eq (get_or (f ∷ fs) (cond b (suc (earlier_of k.time fs)) 0) no_frame).time k.time) (suc (length fs)) (suc (suc (length fs)))
    go rest true =
        rw (one_more (earlier_of k.time fs) (length fs))
        (ap suc rest ∙ of-picked suc (ltb (earlier_of k.time fs) (length fs) && eq (get_or fs (earlier_of k.time fs) no_frame).time k.time) (length fs) (suc (length fs)) (suc (length fs)) (suc (suc (length fs))) refl refl)
    go rest false = rw (lt-ltb 0 (suc (length fs)) (omega arith)) (of-picked length (eq f.time k.time) (k ∷ fs) (k ∷ f ∷ fs) (suc (length fs)) (suc (suc (length fs))) refl refl)

module _ (words row : List ℕ) (few : word_at words 512 ≤ 64) (k : Keyframe) (at : k.time ≡ float_at row 0) where
  abbrev p : ℕ
  p = place_of words row

  abbrev n : ℕ
  n = word_at words 512

  same_test : (b : Bool) → ltb (place_of words row) (word_at words 512) ≡ b → b && eq (get_or (take (word_at words 512) (frames_of words)) (place_of words row) no_frame).time (float_at row 0) ≡ b && eq (float_at words (8 * place_of words row)) (float_at row 0)
  unfolding frame_in frame_from frame_at
  same_test true e =
      let h = ltb-true p n e in
      rw (get_or-take n (frames_of words) p no_frame h, frame-at words p (omega arith)) refl
  same_test false e = refl

  long : length (pushed_of k (take (word_at words 512) (frames_of words))) ≡ cond (replaces words row) (word_at words 512) (suc (word_at words 512))
  long =
      let l : length (take n (frames_of words)) ≡ n = length-take-le n (frames_of words) (omega (arith, frames-long words)) in
      pushed-length k (take n (frames_of words)) ∙ rw (at, l, same_test (ltb p n) refl) refl

  pub room-is : leb (length (pushed_of k (take (word_at words 512) (frames_of words)))) 64 ≡ has_room words row
  room-is = rw long (go (replaces words row))
    where
      go : (b : Bool) → leb (cond b n (suc n)) 64 ≡ b || ltb n 64
      go true = le-leb n 64 few
      go false = refl
