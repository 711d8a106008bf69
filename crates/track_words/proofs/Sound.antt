-- A walk along the frames of a track's words that asks their patterns. Assumes nothing.
use Prim.Native.Nat.{ℕ, zero, suc, ◌+◌, ◌*◌, ◌%◌, ◌<◌, ◌≤◌}
use native.Mathlib.Numerals.{add-one}
use native.Mathlib.Omega.{arith}
use mathlib.Core.Path.{◌≡◌, refl, sym, ◌∙◌}
use mathlib.Core.Bool.{Bool, true, false, ◌&&◌}
use mathlib.Core.List.{List}
use lib.Dec.{T, leb}
use lib.ListN.{length, take, drop}
use lib.Ieee.{Float, lt, of_bits}
use lib.Ieee.Bits.{is_true}
use borrow.Author.Tests.{leb-true, leb-false, le-leb, lt-leb}
use denote.Floats.{passes as holds}
use Rattle.math.specs.Rounded.{f32, zero_f}
use Rattle.math.proofs.Order.{lt-le-chain, not-lt-of-le}
use Rattle.math.proofs.Ordered.{below, in_order, value-test}
use Rattle.easing.specs.Apply.{fits_record_of}
use Rattle.frames.specs.Limits.{before_all, frame_within, frames_after, is_time}
use Rattle.frames.proofs.Stamps.{time-test}
use Rattle.keyframe.proofs.Records.{after-step, after-end}
use Rattle.words.specs.Kinds.{easing_from, is_kind}
use Rattle.words.specs.Lent.{word_at, easing_at, frame_at, track_in}
use Rattle.words.specs.Sampling.{easing_fits}
use Rattle.words.specs.Tracks.{easing_in, frame_from, known_kinds}
use Rattle.words.proofs.Known.{known_step, known-end}
use Rattle.track_words.specs.Reading.{frame_in, frames_of}
use Rattle.track_words.proofs.Placed.{places-long, words-at, frames-long, frame-at}

-- the time of which 1 more than the pattern is known; -1 where it is 0
abbrev pub before_of : ℕ → Float
before_of zero = before_all
before_of (suc n) = f32 n

below-zero : T (lt before_all zero_f)
unfolding lt of_bits
below-zero = tt

-- a later pattern is a later time
later : (above time : ℕ) → above ≤ 0x4b80_0001 → time ≤ 0x4b80_0000 → lt (before_of above) (f32 time) ≡ leb above time
later zero time a h = is_true _ (lt-le-chain before_all zero_f (f32 time) below-zero (holds _ (in_order 0 time (omega arith) (omega arith)))) ∙ sym (le-leb 0 time (omega arith))
later (suc n) time a h = go (leb (suc n) time) refl
  where
    go : (b : Bool) → leb (suc n) time ≡ b → lt (f32 n) (f32 time) ≡ b
    go true e = below n time (omega (arith, leb-true (suc n) time e)) (omega arith)
    go false e = not-lt-of-le (f32 time) (f32 n) (holds _ (in_order time n (omega (arith, leb-false (suc n) time e)) (omega arith)))

-- a pattern of more than 32 bits reads as one with the sign set
signed : (n : ℕ) → 0x1_0000_0000 ≤ n → f32 n ≡ f32 (0x8000_0000 + n % 0x8000_0000)
unfolding of_bits
signed n h =
    let m = 0x8000_0000 + n % 0x8000_0000 in
    let a : m % 0x8000_0000 ≡ n % 0x8000_0000 = omega arith in
    let b : m % 0x80_0000 ≡ n % 0x80_0000 = omega arith in
    rw (le-leb 0x8000_0000 n (omega arith), le-leb 0x8000_0000 m (omega arith), a, b) refl

time-word : (n : ℕ) → is_time (f32 n) ≡ leb n 0x4b80_0000
time-word n = go (leb 0x1_0000_0000 n) refl
  where
    go : (b : Bool) → leb 0x1_0000_0000 n ≡ b → is_time (f32 n) ≡ leb n 0x4b80_0000
    go false e = time-test n (leb-false _ _ e)
    go true e =
        let h = leb-true 0x1_0000_0000 n e in
        let m = 0x8000_0000 + n % 0x8000_0000 in
        rw (signed n h, time-test m (omega arith), lt-leb m 0x4b80_0000 (omega arith), lt-leb n 0x4b80_0000 (omega arith)) refl

-- the tests of a frame, in the order of the code
shuffled : (k e t v l a rest more : Bool) → (t ≡ true → l ≡ a) → k && rest && (t && v && e && l && more) ≡ a && t && v && (k && e) && (rest && more)
shuffled k e false v l a rest more h = go k rest a
  where
    go : (k rest a : Bool) → k && rest && false ≡ a && false && v && (k && e) && (rest && more)
    go true true true = refl
    go true true false = refl
    go true false true = refl
    go true false false = refl
    go false rest true = refl
    go false rest false = refl
shuffled k e true v l a rest more h = rw (h refl) (go k rest a v e)
  where
    go : (k rest a v e : Bool) → k && rest && (v && e && a && more) ≡ a && true && v && (k && e) && (rest && more)
    go true true true true true = refl
    go true true true true false = refl
    go true true true false e = refl
    go true true false true true = refl
    go true true false true false = refl
    go true true false false e = refl
    go true false true true true = refl
    go true false true true false = refl
    go true false true false e = refl
    go true false false v e = refl
    go false rest true true e = refl
    go false rest true false e = refl
    go false rest false v e = refl

-- the frames from i on, the first of them after a time
abbrev pub sound_from : List ℕ → ℕ → ℕ → ℕ → Bool
sound_from words n i above = known_kinds (drop i (take n (track_in words).frames)) && frames_after (before_of above) (drop i (take n (frames_of words)))

module _ (words : List ℕ) (n : ℕ) (most : n ≤ 64) where
  pub sound-step : (i above : ℕ) → i < n → above ≤ 0x4b80_0001
      → sound_from words n i above
      ≡ leb above (word_at words (8 * i)) && leb (word_at words (8 * i)) 0x4b80_0000 && leb (word_at words (8 * i + 1) % 0x8000_0000) 0x4b80_0000 && easing_fits (easing_at words (8 * i + 2))
      && sound_from words n (i + 1) (word_at words (8 * i) + 1)
  unfolding frame_within frame_in frame_from frame_at easing_fits
  sound-step i above h a =
      let fit : n ≤ length (track_in words).frames = omega (arith, places-long words) in
      let fits : n ≤ length (frames_of words) = omega (arith, frames-long words) in
      rw (
        known_step (track_in words).frames n fit i h,
        after-step (frames_of words) n fits i (before_of above) h,
        words-at words i (omega arith),
        frame-at words i (omega arith),
        time-word (word_at words (8 * i)),
        value-test (word_at words (8 * i + 1)),
        add-one (word_at words (8 * i)),
      )
      (shuffled (is_kind (word_at words (8 * i + 2))) (fits_record_of (easing_in (easing_from (easing_at words (8 * i + 2))))) (leb (word_at words (8 * i)) 0x4b80_0000) (leb (word_at words (8 * i + 1) % 0x8000_0000) 0x4b80_0000)
      (lt (before_of above) (f32 (word_at words (8 * i)))) (leb above (word_at words (8 * i))) (known_kinds (drop (i + 1) (take n (track_in words).frames))) (frames_after (f32 (word_at words (8 * i))) (drop (i + 1) (take n (frames_of words)))) (λ e. later above (word_at words (8 * i)) a (leb-true _ _ e)))

  pub sound-end : (above : ℕ) → sound_from words n n above ≡ true
  sound-end above = rw (known-end (track_in words).frames n (omega (arith, places-long words)), after-end (frames_of words) n (omega (arith, frames-long words)) (before_of above)) refl

  -- the kinds alone
  pub kinds-step : (i : ℕ) → i < n → known_kinds (drop i (take n (track_in words).frames)) ≡ is_kind (word_at words (8 * i + 2)) && known_kinds (drop (i + 1) (take n (track_in words).frames))
  unfolding frame_at
  kinds-step i h =
      let fit : n ≤ length (track_in words).frames = omega (arith, places-long words) in
      known_step (track_in words).frames n fit i h ∙ rw (words-at words i (omega arith)) refl

  pub kinds-end : known_kinds (drop n (take n (track_in words).frames)) ≡ true
  kinds-end = known-end (track_in words).frames n (omega (arith, places-long words))
