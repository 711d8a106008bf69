-- The limits of a track, test by test. Assumes nothing.
use Rattle.std.specs.Prelude.{None, Some}
use Rattle.std.proofs.Common.{◌≡◌, ℕ, ◌+◌, ◌-◌, ◌<◌, ◌≤◌, Bool, true, false, ◌&&◌, leb, List, length, get_or, take, drop, sym, arith, length-take-le, get_or-take, ne_eqb, le-leb, leb-true}
use mathlib.Core.Bool.{and-true}
use lib.Ieee.{Float, lt, le}
use borrow.Author.Tests.{lt-leb}
use mir.Val.{Val}
use denote.Laws.{Is}
use denote.Struct.Declared.{row}
use denote.Struct.Laws.{owed}
use Rattle.math.specs.Rounded.{zero_f, top_f}
use Rattle.math.specs.Range.{is_between}
use Rattle.math.proofs.Choice.{and_both}
use Rattle.loop_mode.specs.declared.Loop.{Loop}
use Rattle.loop_mode.specs.Passes as passes
use Rattle.frames.specs.declared.frame.Keyframe.{Keyframe}
use Rattle.frames.specs.Limits.{frame_within, frames_after, frames_within, no_frame}
use Rattle.frames.specs.Sampling.{duration_of}
use Rattle.frames.proofs.Walks.{front, back}
use Rattle.keyframe.specs.declared.types.Track.{Track}
use Rattle.keyframe.specs.contracts.types.Track.{the_type}
use Rattle.keyframe.proofs.types.Track.TheLaws.{the_laws}
use Rattle.keyframe.specs.Limits.{frames_in, base_of, end_of, mode_fits, clock_fits, within_of}

-- a track's array has 64 places
pub frames-long : (t : Track) (vs : List Val) → Is (row the_type) t vs → length t.frames ≡ 64
frames-long t vs h = (owed the_type the_laws t vs h).0.1.0.1

-- the modes
module _ (m : Loop) (base : Float) where
  pub ends : (total : Float) → Some total ≡ end_of m base → (b : Bool) → b ≡ passes.within_of m → b && le total top_f ≡ mode_fits m base
  unfolding mode_fits
  ends total e b h = rw (← e, h)

  pub goes_on : None ≡ end_of m base → (b : Bool) → b ≡ passes.within_of m → b ≡ mode_fits m base
  unfolding mode_fits
  goes_on e b h = rw (← e, h) (sym (and-true (passes.within_of m)))

-- the frames
module _ (fs : List Keyframe) (n : ℕ) (fit : n ≤ length fs) where
  pub after-step : (i : ℕ) (p : Float) → i < n
      → frames_after p (drop i (take n fs)) ≡ frame_within (get_or fs i no_frame) && lt p (get_or fs i no_frame).time && frames_after (get_or fs i no_frame).time (drop (i + 1) (take n fs))
  unfolding frames_after
  after-step i p h = rw (front fs n fit no_frame i h)

  pub after-end : (p : Float) → frames_after p (drop n (take n fs)) ≡ true
  unfolding frames_after
  after-end p = rw (back fs n fit)

  pub last-time : (n ≡ 0 → ⊥) → duration_of (take n fs) ≡ (get_or fs (n - 1) no_frame).time
  unfolding duration_of
  last-time some =
      let l : length (take n fs) ≡ n = length-take-le n fs fit in
      let b : n - 1 < n = omega (arith, some) in
      rw (l, ne_eqb n 0 some, get_or-take n fs (n - 1) no_frame b)

pub no-time : (fs : List Keyframe) (n : ℕ) → n ≡ 0 → duration_of (take n fs) ≡ zero_f
unfolding duration_of
no-time fs n e = rw e

-- the record
module _ (t : Track) where
  pub too_many : 64 < t.count → false ≡ within_of t
  unfolding within_of
  too_many h = rw (lt-leb t.count 64 h)

  module _ (few : t.count ≤ 64) where
    pub broken : false ≡ frames_within (frames_in t) → false ≡ within_of t
    unfolding within_of
    broken e = rw (le-leb t.count 64 few, ← e)

    pub clocked : frames_within (frames_in t) ≡ true → (base : Float) → base_of t ≡ base → clock_fits t.elapsed t.looping base ≡ within_of t
    unfolding within_of
    clocked f base e = rw (le-leb t.count 64 few, f, e)

-- what a record within its limits has
module _ (t : Track) (fine : within_of t ≡ true) where
  counted : leb t.count 64 && frames_within (frames_in t) ≡ true
  unfolding within_of
  counted = (and_both (leb t.count 64 && frames_within (frames_in t)) (clock_fits t.elapsed t.looping (base_of t)) fine).0

  clock : clock_fits t.elapsed t.looping (base_of t) ≡ true
  unfolding within_of
  clock = (and_both (leb t.count 64 && frames_within (frames_in t)) (clock_fits t.elapsed t.looping (base_of t)) fine).1

  pub few-frames : t.count ≤ 64
  few-frames = leb-true t.count 64 (and_both (leb t.count 64) (frames_within (frames_in t)) counted).0

  pub frames-fine : frames_within (frames_in t) ≡ true
  frames-fine = (and_both (leb t.count 64) (frames_within (frames_in t)) counted).1

  pub elapsed-fine : is_between zero_f top_f t.elapsed ≡ true
  unfolding clock_fits
  elapsed-fine = (and_both (is_between zero_f top_f t.elapsed) (mode_fits t.looping (base_of t)) clock).0

  pub mode-fine : mode_fits t.looping (base_of t) ≡ true
  unfolding clock_fits
  mode-fine = (and_both (is_between zero_f top_f t.elapsed) (mode_fits t.looping (base_of t)) clock).1
