-- The places of a track's words as lists of frames. Assumes nothing.
use Prim.Native.Nat.{ℕ, zero, suc, ◌+◌, ◌*◌, ◌<◌, ◌≤◌}
use native.Mathlib.Nat.{eq-or-lt_of_le}
use native.Mathlib.Numerals.{add-one}
use native.Mathlib.Omega.{arith}
use mathlib.Core.Path.{◌≡◌, refl, sym, ◌∙◌}
use mathlib.Core.List.{List, [], ◌∷◌, ◌++◌, append_assoc, map}
use mathlib.Core.Logic.{⊎_elim}
use lib.ListN.{length, length-append, take, drop, get_or, set, get_or-append, get_or-map}
use lib.Seq.{drop-cons, set_at, take_at, take-append-le, take_all, get_or_at}
use lib.Ieee.{nan}
use Rattle.math.specs.Lists.{firsts}
use Rattle.frames.specs.declared.frame.Keyframe.{Keyframe}
use Rattle.frames.specs.Inner.{times_of}
use Rattle.frames.specs.Limits.{no_frame}
use Rattle.keyframe.specs.Limits.{frames_in}
use Rattle.words.specs.declared.tracks.LaxKeyframe.{LaxKeyframe}
use Rattle.words.specs.Lent.{word_at, float_at, frame_at, track_in}
use Rattle.words.specs.Tracks.{blanks, frame_from, frames_from, track_from}
use Rattle.words.proofs.Known.{no_words, all-places}
use Rattle.track_words.specs.Reading.{track_of, frame_in, frames_of}

-- the first of a sequence
module _ {A : Type 0} (f : ℕ → A) where
  pub length-firsts : (n : ℕ) → length (firsts f n) ≡ n
  unfolding firsts
  length-firsts zero = refl
  length-firsts (suc n) = rw (length-append, length-firsts n) (omega arith)

  pub firsts_at : (n i : ℕ) (d : A) → i < n → get_or (firsts f n) i d ≡ f i
  unfolding firsts
  firsts_at zero i d h = absurd (omega (arith, h))
  firsts_at (suc n) i d h =
      ⊎_elim (λ (e : i ≡ n). rw e (get_or_at (firsts f n) (f n) [] d n (length-firsts n)))
      (λ (l : i < n). get_or-append (firsts f n) (f n ∷ []) d i (omega (arith, length-firsts n, l)) ∙ firsts_at n i d l)
      (eq-or-lt_of_le {n = i} {m = n} (omega (arith, h)))

  pub take-firsts : (n m : ℕ) → n ≤ m → take n (firsts f m) ≡ firsts f n
  unfolding firsts
  take-firsts n zero h =
      let e : n ≡ 0 = omega (arith, h) in
      rw e refl
  take-firsts n (suc m) h =
      ⊎_elim (λ (e : n ≡ suc m). rw e (take_all (suc m) (firsts f m ++ (f m ∷ [])) (omega (arith, length-append (firsts f m) (f m ∷ []), length-firsts m))))
      (λ (l : n < suc m). take-append-le n (firsts f m) (f m ∷ []) (omega (arith, length-firsts m, l)) ∙ take-firsts n m (omega (arith, l)))
      (eq-or-lt_of_le {n = n} {m = suc m} h)

map-append : {A B : Type 0} (g : A → B) (xs ys : List A) → map g (xs ++ ys) ≡ map g xs ++ map g ys
map-append g [] ys = refl
map-append g (x ∷ xs) ys = rw (map-append g xs ys) refl

pub map-firsts : {A B : Type 0} (g : A → B) (f : ℕ → A) (n : ℕ) → map g (firsts f n) ≡ firsts (λ i. g (f i)) n
unfolding firsts
map-firsts g f zero = refl
map-firsts g f (suc n) = map-append g (firsts f n) (f n ∷ []) ∙ (rw (map-firsts g f n) refl)

take-map : {A B : Type 0} (g : A → B) (n : ℕ) (l : List A) → take n (map g l) ≡ map g (take n l)
take-map g zero l = refl
take-map g (suc n) [] = refl
take-map g (suc n) (x ∷ l) = rw (take-map g n l) refl

module _ (words : List ℕ) where
  pub places-long : length (track_in words).frames ≡ 64
  unfolding track_in
  places-long = length-firsts (λ i. frame_at words (8 * i)) 64

  pub words-at : (i : ℕ) → i < 64 → get_or (track_in words).frames i no_words ≡ frame_at words (8 * i)
  unfolding track_in
  words-at i h = firsts_at (λ i. frame_at words (8 * i)) 64 i no_words h

  pub frames-long : length (frames_of words) ≡ 64
  unfolding frames_of
  frames-long = length-firsts (frame_in words) 64

  pub frame-at : (i : ℕ) → i < 64 → get_or (frames_of words) i no_frame ≡ frame_in words i
  unfolding frames_of
  frame-at i h = firsts_at (frame_in words) 64 i no_frame h

  -- the frames of the track are those of the first places
  pub track-frames : word_at words 512 ≤ 64 → frames_in (track_of words) ≡ take (word_at words 512) (frames_of words)
  unfolding track_from frames_from track_in frames_of frame_in
  track-frames h =
      let n = word_at words 512 in
      let f : ℕ → LaxKeyframe = λ i. frame_at words (8 * i) in
      rw (all-places n h, take-firsts f n 64 h, map-firsts frame_from f n)
      (take_at (firsts (λ i. frame_from (f i)) n) (drop n blanks) n (length-firsts (λ i. frame_from (f i)) n) ∙ sym (take-firsts (λ i. frame_from (f i)) n 64 h))

  pub times-front : (n : ℕ) → take n (times_of (frames_of words)) ≡ times_of (take n (frames_of words))
  times-front n = take-map (λ (k : Keyframe). k.time) n (frames_of words)

  pub time-at : (i : ℕ) → i < 64 → get_or (times_of (frames_of words)) i nan ≡ float_at words (8 * i)
  unfolding frame_in frame_from frame_at
  time-at i h = get_or-map (λ (k : Keyframe). k.time) (frames_of words) i no_frame ∙ rw (frame-at i h)

-- a list whose front is filled, place by place, from a sequence
module _ {A : Type 0} (f : ℕ → A) (out : List A) where
  pub filled_none : out ≡ firsts f 0 ++ drop 0 out
  unfolding firsts
  filled_none = refl

  pub filled-one : (i : ℕ) → i < length out → set (firsts f i ++ drop i out) i (f i) ≡ firsts f (i + 1) ++ drop (i + 1) out
  unfolding firsts
  filled-one i h = rw (add-one, append_assoc, drop-cons out i (f i) h) (set_at (firsts f i) (get_or out i (f i)) (drop (suc i) out) (f i) i (length-firsts f i))
