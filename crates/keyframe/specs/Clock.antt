-- What moves in a track and where it stands, by the parts that count: how many frames there are, the last time, the mode and the clock.
use Rattle.std.specs.Prelude.{ℕ, Bool, true, false, cond, not, ◌&&◌, ◌||◌, nat_lt, Float, Err, None, Option, Result, Some, Ok}
use Rattle.std.specs.Float.Ieee.{lt, le, eq}
use Rattle.math.specs.Rounded.{◌⊕◌, ◌⊗◌, ◌⊘◌, zero_f, one_f, top_f}
use Rattle.math.specs.Range.{max_zero_of}
use Rattle.math.specs.Whole.{whole_part_of}
use Rattle.math.specs.Blend.{ratio_of}
use Rattle.refusal.specs.declared.Refusal.TheVariants.{StepTooLong, StepLost, ElapsedTooLong}
use Rattle.refusal.specs.Refusing.{when, rejected}
use Rattle.loop_mode.specs.declared.Loop.{Loop}
use Rattle.frames.specs.Sampling.{span_of}
use Rattle.keyframe.specs.declared.types.Track.{Track}
use Rattle.keyframe.specs.declared.types.Updated.{Updated}
use Rattle.keyframe.specs.declared.types.Clock.{Clock}
use Rattle.keyframe.specs.declared.types.Ticked.{Ticked}
use Rattle.keyframe.specs.Limits.{end_of}
use Rattle.keyframe.specs.Playback.{phase_of}
use Rattle.keyframe.specs.Stepping.{final_of, has_end, lost_of, moved_of, ran, span_in}
use Rattle.refusal.specs.declared.Refusal.{Refusal}
use Rattle.refusal.specs.declared.rejected.Rejected.{Rejected}

abbrev pub clock_of : Float → ℕ → Bool → Clock
clock_of elapsed count complete = record { elapsed = elapsed; loop_count = count; complete = complete }

abbrev pub clock_in : Track → Clock
clock_in t = clock_of t.elapsed t.loop_count t.complete

-- a step that ran to there; it goes on where the track is not complete
abbrev pub ticked_at : Float → ℕ → Bool → Result Ticked Refusal
ticked_at elapsed count complete = Ok (record { clock = clock_of elapsed count complete; running = not complete })

-- the clock at `sum` seconds, as `advance_of` has it
unfoldable pub tick_to : Option Float → Loop → Float → Float → Result Ticked Refusal
tick_to (Some total) looping base sum =
    cond (le total sum) (ticked_at total (final_of looping (whole_part_of (sum ⊘ base))) true)
    (ticked_at sum (whole_part_of (sum ⊘ base)) false)
tick_to None looping base sum =
    when (lt top_f sum) (Err ElapsedTooLong)
    (ticked_at sum (whole_part_of (sum ⊘ base)) false)

-- an update of a track within its limits, as `update_of` has it
unfoldable pub tick_of : ℕ → Float → Loop → Clock → Float → Result Ticked Refusal
tick_of frames base looping c dt =
    when (lt top_f dt) (Err StepTooLong)
    (cond (nat_lt frames 2 || c.complete) (Ok (record { clock = c; running = false }))
    (when (lost_of c.elapsed (max_zero_of dt)) (Err StepLost)
    (tick_to (end_of looping base) looping base (c.elapsed ⊕ max_zero_of dt))))

-- as `sought_of` has it
unfoldable pub seek_of : Option Float → Float → Float → Clock
seek_of end base p =
    let span = span_in end base in
    cond (eq span zero_f) (clock_of zero_f 0 true)
    (clock_of (span ⊗ p) (whole_part_of (span ⊗ p ⊘ span_of base)) (has_end end && le one_f p))

-- as `active_of` has it
abbrev pub active_at : Loop → Bool → Float → Float → Float
active_at looping complete elapsed base = cond (eq base zero_f) zero_f (phase_of looping complete elapsed base)

-- as `playback_progress` has it
abbrev pub progress_at : Option Float → Loop → Bool → Float → Float → Float
progress_at (Some total) looping complete elapsed base = ratio_of elapsed total
progress_at None looping complete elapsed base = ratio_of (active_at looping complete elapsed base) base

-- a clock put into a track
abbrev pub with_clock : Track → Clock → Track
with_clock t c = moved_of t c.elapsed c.loop_count c.complete

abbrev pub ticked_in : Track → Result Ticked Refusal → Result Updated (Rejected Track)
ticked_in t (Ok o) = ran (with_clock t o.clock) o.running
ticked_in t (Err r) = rejected t r
