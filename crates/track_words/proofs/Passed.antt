-- The cases of a check. Assumes nothing.
use Prim.Native.Nat.{ℕ, ◌<◌, ◌≤◌}
use native.Mathlib.Omega.{arith}
use mathlib.Core.Path.{◌≡◌, refl, sym}
use mathlib.Core.Bool.{Bool, true, false, cond, ◌&&◌}
use mathlib.Core.List.{List}
use lib.ListN.{take}
use lib.Ieee.{Float}
use Rattle.math.proofs.Choice.{and_both}
use Rattle.frames.specs.Limits.{frames_within}
use Rattle.frames.specs.Sampling.{duration_of}
use Rattle.keyframe.specs.Limits.{frames_in, within_of}
use Rattle.keyframe.proofs.Records.{broken, clocked, few-frames, frames-fine, too_many}
use Rattle.words.specs.Lent.{word_at, track_in}
use Rattle.words.specs.Modes.{is_mode}
use Rattle.words.specs.Tracks.{known_kinds, known_track, places_in, track_from}
use Rattle.words.proofs.Known.{all-places}
use Rattle.track_words.specs.Reading.{frames_of, track_of}
use Rattle.track_words.specs.Checking.{check_of}
use Rattle.track_words.specs.Inner.{head_of, sound_of}
use Rattle.track_words.proofs.Placed.{track-frames}

module _ (words : List ℕ) where
  abbrev n : ℕ
  n = word_at words 512

  pub unknown : known_kinds (take (places_in (word_at words 512)) (track_in words).frames) && is_mode (word_at words 514) ≡ false → 100 ≡ check_of words
  unfolding check_of known_track track_in
  unknown h = rw h refl

  module _ (known : known_kinds (take (places_in (word_at words 512)) (track_in words).frames) && is_mode (word_at words 514) ≡ true) where
    breaks : within_of (track_of words) ≡ false → 4 ≡ check_of words
    unfolding check_of known_track track_in
    breaks h = rw (known, h) refl

    pub too_long : 64 < word_at words 512 → 4 ≡ check_of words
    unfolding track_from track_in
    too_long h = breaks (sym (too_many (track_of words) h))

    pub frame-breaks : word_at words 512 ≤ 64 → sound_of words (word_at words 512) ≡ false → 4 ≡ check_of words
    unfolding track_from track_in
    frame-breaks few h =
        let kinds = (and_both (known_kinds (take (places_in n) (track_in words).frames)) (is_mode (word_at words 514)) known).0 in
        let k : known_kinds (take n (track_in words).frames) ≡ true = rw (all-places n few) at kinds in
        breaks (sym (broken (track_of words) few (rw (track-frames words few) (sym (rw k at h)))))

  module _ (few : word_at words 512 ≤ 64) (sound : sound_of words (word_at words 512) ≡ true) where
    parts : (known_kinds (take (word_at words 512) (track_in words).frames) ≡ true) × (frames_within (take (word_at words 512) (frames_of words)) ≡ true)
    parts = and_both (known_kinds (take n (track_in words).frames)) (frames_within (take n (frames_of words))) sound

    pub head-decides : (base : Float) → base ≡ duration_of (take (word_at words 512) (frames_of words)) → head_of words base ≡ check_of words
    unfolding check_of known_track track_from track_in
    head-decides base e =
        rw (all-places n few, parts.0, ← clocked (track_of words) few (rw (track-frames words few) parts.1) base (rw (track-frames words few) (sym e))) refl

-- words that pass
module _ (words : List ℕ) (fine : check_of words ≡ 0) where
  passed : (known_track (track_in words) ≡ true) × (within_of (track_of words) ≡ true)
  unfolding check_of
  passed = go (known_track (track_in words)) (within_of (track_of words)) fine
    where
      go : (k i : Bool) → ◌≡◌ {A = ℕ} (cond k (cond i 0 4) 100) 0 → (k ≡ true) × (i ≡ true)
      go true true h = (refl, refl)
      go true false h = absurd (omega (arith, h))
      go false i h = absurd (omega (arith, h))

  pub passed-known : known_track (track_in words) ≡ true
  passed-known = passed.0

  pub passed-within : within_of (track_of words) ≡ true
  passed-within = passed.1

  pub passed-few : word_at words 512 ≤ 64
  unfolding track_from track_in
  passed-few = few-frames (track_of words) passed-within

  pub passed-frames : frames_in (track_of words) ≡ take (word_at words 512) (frames_of words)
  passed-frames = track-frames words passed-few

  pub passed-fine : frames_within (take (word_at words 512) (frames_of words)) ≡ true
  passed-fine = rw (← passed-frames) (frames-fine (track_of words) passed-within)
