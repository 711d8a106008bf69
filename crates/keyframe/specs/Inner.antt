-- Why a call on a track within its limits is refused, by the parts that count, as the definitions of the calls have it; proofs/Refusals ties the two. `last` is the last time.
use Rattle.std.specs.Prelude.{ℕ, Bool, ◌&&◌, is_nan, nat_le, nat_lt, Float, Err, Result, ⊤}
use Rattle.math.specs.Range.{is_value}
use Rattle.refusal.specs.declared.Refusal.TheVariants.{ProgressIsNan, EasingNotSupplied, EasingParameter, TrackFull, NoFrames, TrackLimit, OutputTooShort}
use Rattle.refusal.specs.Refusing.{unless, when, done}
use Rattle.easing.specs.declared.kinds.Easing.{Easing}
use Rattle.easing.specs.Kinds.{supplied_of}
use Rattle.easing.specs.Params as params
use Rattle.loop_mode.specs.declared.Loop.{Loop}
use Rattle.frames.specs.Limits.{is_time}
use Rattle.keyframe.specs.Limits.{mode_fits}
use Rattle.keyframe.specs.Pushing.{later_of}
use Rattle.refusal.specs.declared.Refusal.{Refusal}

-- as `takes_of` has it
abbrev pub takes_at : Loop → Float → Float → Float → Bool
takes_at looping last time value = is_time time && is_value value && mode_fits looping (later_of last time)

-- a push, as `push_of` has it: 2, 3, 11
unfoldable pub push_outcome : Easing → Loop → Float → Float → Float → Result ⊤ Refusal
push_outcome easing looping last time value =
    unless (supplied_of easing) (Err EasingNotSupplied)
    (unless (params.within_of (params.params_of easing)) (Err EasingParameter)
    (unless (takes_at looping last time value) (Err TrackLimit)
    done))

-- a frame for which there is no place, as `placed_of` has it: 9
unfoldable pub room_outcome : Bool → Result ⊤ Refusal
room_outcome full =
    when full (Err TrackFull)
    done

-- a change of mode, as `looping_of` has it: 11
unfoldable pub looping_outcome : Loop → Float → Result ⊤ Refusal
looping_outcome mode last =
    unless (mode_fits mode last) (Err TrackLimit)
    done

-- a sample, as `value_at_of` has it: 10
unfoldable pub sample_outcome : ℕ → Result ⊤ Refusal
sample_outcome count =
    unless (nat_lt 0 count) (Err NoFrames)
    done

-- many times at once, as `batch_number` has it: 10, 12
unfoldable pub fill_outcome : ℕ → ℕ → ℕ → Result ⊤ Refusal
fill_outcome count times room =
    unless (nat_lt 0 count) (Err NoFrames)
    (unless (nat_le times room) (Err OutputTooShort)
    done)

-- a seek, as `seek_to_of` has it: 1
unfoldable pub seek_outcome : Float → Result ⊤ Refusal
seek_outcome progress =
    when (is_nan progress) (Err ProgressIsNan)
    done
