-- Document 01, "The track": "`active_time`, `progress`, .. as in the source". The expressions and their order are those of `keyframe.rs`.
use Rattle.std.specs.Prelude.{Bool, false, cond, ◌||◌, nat_lt, Float, Err, None, Ok, Option, Result, Some}
use Rattle.std.specs.Float.{inf, binary32}
use Rattle.std.specs.Float.Ieee.{rem, le, eq}
use Rattle.math.specs.Rounded.{◌⊖◌, ◌⊗◌, zero_f, two_f}
use Rattle.math.specs.Blend.{ratio_of}
use Rattle.refusal.specs.declared.Refusal.TheVariants.{RecordBreaksLimit}
use Rattle.refusal.specs.Refusing.{unless}
use Rattle.loop_mode.specs.declared.Loop.{Loop}
use Rattle.loop_mode.specs.declared.Loop.TheVariants.{Once, Times, Forever, PingPong, PingPongTimes}
use Rattle.frames.specs.Sampling.{cut_of}
use Rattle.keyframe.specs.declared.types.Track.{Track}
use Rattle.keyframe.specs.Limits.{base_of, end_of, within_of}
use Rattle.units.specs.declared.Progress.{Progress}
use Rattle.refusal.specs.declared.Refusal.{Refusal}
use Rattle.units.specs.declared.Seconds.{Seconds}

-- the remainder is exact
infixl 7 ◌%%◌
abbrev pub ◌%%◌ : Float → Float → Float
x %% y = rem binary32 x y

-- forward, then backward
abbrev pub bounce_of : Float → Float → Float
bounce_of cycle base = cond (le cycle base) cycle (base ⊗ two_f ⊖ cycle)

-- the time within a pass that takes `base` seconds
unfoldable pub phase_of : Loop → Bool → Float → Float → Float
phase_of Once complete elapsed base = cut_of elapsed base
phase_of (Times n) complete elapsed base = cond complete base (elapsed %% base)
phase_of Forever complete elapsed base = elapsed %% base
phase_of PingPong complete elapsed base = bounce_of (elapsed %% (base ⊗ two_f)) base
phase_of (PingPongTimes n) complete elapsed base = bounce_of (elapsed %% (base ⊗ two_f)) base

unfoldable pub active_of : Track → Float
active_of t = cond (eq (base_of t) zero_f) zero_f (phase_of t.looping t.complete t.elapsed (base_of t))

-- a track within its limits answers a time
abbrev pub in_seconds : Track → Float → Result Seconds Refusal
in_seconds t x = unless (within_of t) (Err RecordBreaksLimit) (Ok (record { 0 = x }))

unfoldable pub active_time_of : Track → Result Seconds Refusal
active_time_of t = in_seconds t (active_of t)

-- the source's `duration` of the track: one pass
unfoldable pub duration_in : Track → Result Seconds Refusal
duration_in t = in_seconds t (base_of t)

-- all passes: infinite in the modes without an end, and 0 where a pass takes no time
abbrev pub playback_of : Option Float → Float → Float
playback_of (Some total) base = total
playback_of None base = cond (eq base zero_f) zero_f (inf false)

unfoldable pub playback_in : Track → Result Seconds Refusal
playback_in t = in_seconds t (playback_of (end_of t.looping (base_of t)) (base_of t))

-- of the total; in the modes without one, of the pass
abbrev pub playback_progress : Option Float → Track → Float
playback_progress (Some total) t = ratio_of t.elapsed total
playback_progress None t = ratio_of (active_of t) (base_of t)

unfoldable pub progress_of : Track → Result Progress Refusal
progress_of t =
    unless (within_of t) (Err RecordBreaksLimit)
    (Ok (record { 0 = playback_progress (end_of t.looping (base_of t)) t }))

-- "complete or fewer than two frames"
abbrev pub done_of : Track → Bool
done_of t = nat_lt t.count 2 || t.complete

unfoldable pub complete_of : Track → Result Bool Refusal
complete_of t = unless (within_of t) (Err RecordBreaksLimit) (Ok (done_of t))
