-- The words that a push leaves are read as the track that it makes. Assumes nothing.
use Rattle.std.specs.Prelude.{None, Some, Ok}
use Prim.Native.Nat.{ℕ, suc, ◌+◌, ◌-◌, ◌*◌, ◌<◌, ◌≤◌}
use native.Mathlib.Omega.{arith}
use mathlib.Core.Path.{◌≡◌, refl, sym, ap, ◌∙◌}
use mathlib.Core.Bool.{Bool, true, false, cond, ◌&&◌}
use mathlib.Core.List.{List, [], ◌∷◌, ◌++◌}
use lib.Dec.{ltb}
use lib.ListN.{length, drop, get_or}
use lib.Seq.{drop_at, drop-drop, take_at}
use lib.Ieee.{eq, lt}
use borrow.Author.Tests.{le-leb, ltb-true}
use Rattle.math.specs.Lists.{firsts}
use Rattle.math.specs.Rounded.{f32, zero_f}
use Rattle.math.proofs.Choice.{and_both, by-test, of-picked}
use Rattle.frames.specs.declared.frame.Keyframe.{Keyframe}
use Rattle.frames.specs.Inner.{earlier_of}
use Rattle.frames.specs.Limits.{no_frame}
use Rattle.frames.specs.Pushing.{pushed_of, put_of}
use Rattle.frames.specs.Sampling.{leading}
use Rattle.keyframe.specs.Limits.{frames_in}
use Rattle.keyframe.specs.Pushing.{stored_of, with_frames, placed_of}
use Rattle.words.specs.declared.tracks.LaxKeyframe.{LaxKeyframe}
use Rattle.words.specs.Kinds.{is_kind}
use Rattle.words.specs.Lent.{word_at, float_at, frame_at, track_in}
use Rattle.words.specs.Tracks.{blanks, frame_from, frame_read, frames_from, track_from}
use Rattle.words.proofs.Known.{all-places}
use Rattle.track_words.specs.Pushing.{has_room, place_of, push_into, replaces, stored_row}
use Rattle.track_words.specs.Reading.{frame_in, frames_of, track_of}
use Rattle.track_words.specs.Promises.{Pushable, PushBack, PushFrames}
use Rattle.track_words.proofs.Passed.{passed-few}
use Rattle.track_words.proofs.Entered.{Headed, words_in, replacing, inserting, replaced-front, replaced-here, replaced-back, replaced-head, inserted-front, inserted-here, inserted-back, inserted-head}
use Rattle.track_words.proofs.Placed.{length-firsts, firsts_at, take-firsts, map-firsts}
use Rattle.track_words.proofs.Spliced.{has_time, spliced, by_place, pushed-spliced, firsts-spliced}

leading-most : (q : Keyframe → Bool) (l : List Keyframe) → leading q l ≤ length l
unfolding leading
leading-most q [] = omega arith
leading-most q (f ∷ fs) = by-test (λ (m : ℕ). m ≤ suc (length fs)) (q f) (suc (leading q fs)) 0 (λ _. omega (arith, leading-most q fs)) (λ _. omega arith)

-- the kind of the frame at place i is known
abbrev pub KnownAt : List ℕ → ℕ → Type 0
KnownAt words i = is_kind (words_in words i).easing.kind ≡ true

-- w has the frames of the words that came with k, which the row stands for, pushed among them, and their head
pub record Took (words row w : List ℕ) (k : Keyframe) : Type 0 where
  pub n : ℕ
  pub more : word_at words 512 ≤ n
  pub most : n ≤ 64
  pub head : Headed words w n
  pub frames : firsts (frame_in w) n ≡ pushed_of k (firsts (frame_in words) (word_at words 512))
  pub kinds : ((i : ℕ) → i < word_at words 512 → KnownAt words i) → KnownAt row 0 → (i : ℕ) → i < n → KnownAt w i

module _ (words row : List ℕ) (long : length words ≡ 518) (few : word_at words 512 ≤ 64) (k : Keyframe) (is : frame_in row 0 ≡ k) where
  abbrev n : ℕ
  n = word_at words 512

  abbrev p : ℕ
  p = place_of words row

  abbrev came : List Keyframe
  came = firsts (frame_in words) n

  pub time-is : k.time ≡ float_at row 0
  unfolding frame_in frame_from frame_at
  time-is = rw (← is) refl

  place_is : place_of words row ≡ earlier_of k.time (firsts (frame_in words) (word_at words 512))
  unfolding frames_of
  place_is = rw (take-firsts (frame_in words) n 64 few, time-is) refl

  low : place_of words row ≤ word_at words 512
  low = omega (arith, place_is, leading-most (λ (f : Keyframe). lt f.time k.time) came, length-firsts (frame_in words) n)

  replaces-is : has_time (firsts (frame_in words) (word_at words 512)) (place_of words row) k.time ≡ replaces words row
  unfolding frame_in frame_from frame_at
  replaces-is = rw (length-firsts (frame_in words) n, time-is) (go (ltb p n) refl)
    where
      go : (b : Bool) → ltb p n ≡ b → b && eq (get_or came p no_frame).time (float_at row 0) ≡ b && eq (float_at words (8 * p)) (float_at row 0)
      go true e = rw (firsts_at (frame_in words) n p no_frame (ltb-true p n e)) refl
      go false e = refl

  pushed-is : (b : Bool) → replaces words row ≡ b → spliced (firsts (frame_in words) (word_at words 512)) (place_of words row) k (cond b (suc (place_of words row)) (place_of words row)) ≡ pushed_of k (firsts (frame_in words) (word_at words 512))
  pushed-is b e = sym (pushed-spliced k came ∙ rw (← place_is, replaces-is, e) refl)

  replaced : replaces words row ≡ true → Took words row (replacing words row (word_at words 512) (place_of words row)) k
  unfolding frame_in
  replaced e =
      let below : p < n = ltb-true p n (and_both (ltb p n) (eq (float_at words (8 * p)) (float_at row 0)) e).0 in
      let all : p + suc (n - suc p) ≡ n = omega arith in
      let s = firsts-spliced (frame_in words) (frame_in (replacing words row n p)) n p (suc p) k low below (λ i h. ap frame_from (replaced-front words row long n p few below i h)) (ap frame_from (replaced-here words row long n p few below) ∙ is) (λ j h. ap frame_from (replaced-back words row long n p few below j h)) in
      record {
        n = n;
        more = omega arith;
        most = few;
        head = replaced-head words row long n p few below;
        frames = (rw all at s) ∙ pushed-is true e;
        kinds =
            λ known new i h.
            by_place (KnownAt (replacing words row n p)) p (n - suc p) (λ i l. rw (replaced-front words row long n p few below i l) (known i (omega (arith, l)))) (rw (replaced-here words row long n p few below) new)
            (λ j l. rw (replaced-back words row long n p few below j (omega (arith, l))) (known (suc p + j) (omega (arith, l)))) i (omega (arith, h));
      }

  inserted : replaces words row ≡ false → word_at words 512 < 64 → Took words row (inserting words row (word_at words 512) (place_of words row)) k
  unfolding frame_in
  inserted e room =
      let all : p + suc (n - p) ≡ n + 1 = omega (arith, low) in
      let s = firsts-spliced (frame_in words) (frame_in (inserting words row n p)) n p p k low low (λ i h. ap frame_from (inserted-front words row long n p room low i h)) (ap frame_from (inserted-here words row long n p room low) ∙ is) (λ j h. ap frame_from (inserted-back words row long n p room low j h)) in
      record {
        n = n + 1;
        more = omega arith;
        most = omega arith;
        head = inserted-head words row long n p room low;
        frames = (rw all at s) ∙ pushed-is false e;
        kinds =
            λ known new i h.
            by_place (KnownAt (inserting words row n p)) p (n - p) (λ i l. rw (inserted-front words row long n p room low i l) (known i (omega (arith, l, low)))) (rw (inserted-here words row long n p room low) new)
            (λ j l. rw (inserted-back words row long n p room low j (omega (arith, l))) (known (p + j) (omega (arith, l)))) i (omega (arith, h));
      }

  took : has_room words row ≡ true → Took words row (push_into words row) k
  unfolding push_into
  took room =
      by-test (λ (w : List ℕ). Took words row w k) (replaces words row) (replacing words row n p) (inserting words row n p) replaced
      (λ e. inserted e (ltb-true n 64 (rw e at room)))

-- the places of a track: its frames, then blanks
places-are : (words : List ℕ) → word_at words 512 ≤ 64 → (track_of words).frames ≡ firsts (frame_in words) (word_at words 512) ++ drop (word_at words 512) blanks
unfolding track_from frames_from track_in frame_in
places-are words h =
    let n = word_at words 512 in
    let f : ℕ → LaxKeyframe = λ i. frame_at words (8 * i) in
    rw (all-places n h, take-firsts f n 64 h, map-firsts frame_from f n) refl

count-is : (words : List ℕ) → (track_of words).count ≡ word_at words 512
unfolding track_from track_in
count-is words = refl

frames-are : (words : List ℕ) → word_at words 512 ≤ 64 → frames_in (track_of words) ≡ firsts (frame_in words) (word_at words 512)
frames-are words h =
    let n = word_at words 512 in
    rw (count-is words, places-are words h) (take_at (firsts (frame_in words) n) (drop n blanks) n (length-firsts (frame_in words) n))

module _ (words row w : List ℕ) (few : word_at words 512 ≤ 64) (k : Keyframe) (took : Took words row w k) where
  fits : word_at w 512 ≤ 64
  fits = omega (arith, took.head.count, took.most)

  frames-taken : frames_in (track_of w) ≡ pushed_of k (frames_in (track_of words))
  frames-taken = frames-are w fits ∙ rw (took.head.count, frames-are words few) took.frames

  -- how many frames there are then
  long-is : length (pushed_of k (frames_in (track_of words))) ≡ took.n
  long-is = rw (frames-are words few, ← took.frames) (length-firsts (frame_in w) took.n)

  behind : drop took.n (track_of words).frames ≡ drop took.n blanks
  behind =
      let n = word_at words 512 in
      let e : took.n ≡ n + (took.n - n) = omega (arith, took.more) in
      let f = firsts (frame_in words) n in
      rw (places-are words few, e, ← drop-drop (took.n - n) n (f ++ drop n blanks), ← drop-drop (took.n - n) n blanks, drop_at f (drop n blanks) n (length-firsts (frame_in words) n)) refl

  places-taken : (track_of w).frames ≡ (let l = pushed_of k (frames_in (track_of words)) in l ++ drop (length l) (track_of words).frames)
  places-taken = places-are w fits ∙ rw (long-is, behind, took.head.count, frames-are words few, took.frames) refl

  track-taken : track_of w ≡ (let l = pushed_of k (frames_in (track_of words)) in with_frames (track_of words) (l ++ drop (length l) (track_of words).frames) (length l))
  unfolding track_from track_in
  track-taken =
      let kept = took.head.kept in
      rw (places-taken, long-is, took.head.count, took.head.complete, kept 513 (omega arith) (omega arith), kept 514 (omega arith) (omega arith), kept 515 (omega arith) (omega arith), kept 516 (omega arith) (omega arith)) refl

-- the row that is stored is the frame that is stored
pub stored_is : (row : List ℕ) (k : Keyframe) → frame_read (frame_at row 0) ≡ Some k → frame_in (stored_row row) 0 ≡ stored_of k
unfolding frame_read frame_in frame_from frame_at
stored_is row k known = go (is_kind (word_at row 2)) known
  where
    go : (b : Bool) → cond b (Some (frame_from (frame_at row 0))) None ≡ Some k → frame_in (stored_row row) 0 ≡ stored_of k
    go true e =
        let s : frame_from (frame_at row 0) ≡ k = cc in
        rw (← s, of-picked f32 (eq (float_at row 0) zero_f) 0 (word_at row 0) _ _ refl refl) refl
    go false e = let z : ◌≡◌ {A = ℕ} 0 1 = cc in absurd (omega (arith, z))

pub taken : (words row : List ℕ) (k : Keyframe) → Pushable words row k → has_room words (stored_row row) ≡ true → Took words (stored_row row) (push_into words (stored_row row)) (stored_of k)
taken words row k from room = took words (stored_row row) from.long (passed-few words from.fine) (stored_of k) (stored_is row k from.known) room

pub push-frames : PushFrames
push-frames words row k from room = frames-taken words (stored_row row) (push_into words (stored_row row)) (passed-few words from.fine) (stored_of k) (taken words row k from room)

pub push-back : PushBack
unfolding put_of placed_of
push-back words row k from room =
    let few = passed-few words from.fine in
    let t = taken words row k from room in
    let w = push_into words (stored_row row) in
    rw (long-is words (stored_row row) w few (stored_of k) t, le-leb t.n 64 t.most) (ap Ok (sym (track-taken words (stored_row row) w few (stored_of k) t ∙ rw (long-is words (stored_row row) w few (stored_of k) t) refl)))
