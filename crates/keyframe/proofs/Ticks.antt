-- What the clock's steps make of a track is what the track's own definitions have. Assumes nothing.
use Rattle.std.specs.Prelude.{None, Option, Some}
use Rattle.std.proofs.Common.{◌≡◌, true, refl}
use lib.Ieee.{Float, lt, le, eq}
use Rattle.math.specs.Rounded.{◌⊕◌, zero_f, top_f}
use Rattle.math.specs.Range.{max_zero_of}
use Rattle.math.proofs.Choice.{of-picked}
use Rattle.keyframe.specs.declared.types.Track.{Track}
use Rattle.keyframe.specs.Limits.{base_of, end_of, within_of}
use Rattle.keyframe.specs.Playback.{active_of, done_of, playback_progress}
use Rattle.keyframe.specs.Stepping.{advance_of, lost_of, sought_of, span_in, update_of}
use Rattle.keyframe.specs.Clock.{active_at, clock_in, progress_at, seek_of, tick_of, tick_to, ticked_in, with_clock}

module _ (t : Track) where
  advance-ticked : (end : Option Float) (sum : Float) → ticked_in t (tick_to end t.looping (base_of t) sum) ≡ advance_of end t sum
  unfolding tick_to advance_of
  advance-ticked (Some total) sum = of-picked (ticked_in t) (le total sum) _ _ _ _ refl refl
  advance-ticked None sum = of-picked (ticked_in t) (lt top_f sum) _ _ _ _ refl refl

  pub update-ticked : (dt : Float) → within_of t ≡ true → ticked_in t (tick_of t.count (base_of t) t.looping (clock_in t) dt) ≡ update_of t dt
  unfolding tick_of update_of
  update-ticked dt w =
      rw w
      (of-picked (ticked_in t) (lt top_f dt) _ _ _ _ refl
      (of-picked (ticked_in t) (done_of t) _ _ _ _ refl
      (of-picked (ticked_in t) (lost_of t.elapsed (max_zero_of dt)) _ _ _ _ refl (advance-ticked (end_of t.looping (base_of t)) (t.elapsed ⊕ max_zero_of dt)))))

  pub sought-clock : (end : Option Float) (p : Float) → with_clock t (seek_of end (base_of t) p) ≡ sought_of end t p
  unfolding seek_of sought_of
  sought-clock end p = of-picked (with_clock t) (eq (span_in end (base_of t)) zero_f) _ _ _ _ refl refl

  pub active-clock : active_at t.looping t.complete t.elapsed (base_of t) ≡ active_of t
  unfolding active_of
  active-clock = refl

  pub progress-clock : (end : Option Float) → progress_at end t.looping t.complete t.elapsed (base_of t) ≡ playback_progress end t
  unfolding active_of
  progress-clock (Some total) = refl
  progress-clock None = refl
