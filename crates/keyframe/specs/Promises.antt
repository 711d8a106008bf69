-- Document 01, "Records and their limits" and "The track": what holds of every track. Each sentence is a type; its proof has its name in small letters.
use Rattle.std.specs.Prelude.{◌≡◌, ℕ, ◌<◌, Bool, true, not, T, length, slice_index_or, Float, Ok}
use Rattle.std.specs.Float.{binary32}
use Rattle.std.specs.Float.Ieee.{fits, lt, le, eq}
use Rattle.math.specs.Range.{is_finite}
use Rattle.loop_mode.specs.declared.Loop.{Loop}
use Rattle.frames.specs.declared.frame.Keyframe.{Keyframe}
use Rattle.frames.specs.Limits.{no_frame}
use Rattle.frames.specs.Sampling.{first_of, last_of, own_of, sample_of}
use Rattle.keyframe.specs.declared.types.Track.{Track}
use Rattle.keyframe.specs.Limits.{frames_in, Fine}
use Rattle.keyframe.specs.Playback.{done_of}
use Rattle.keyframe.specs.Pushing.{new_track, push_of, looping_of, left_by}
use Rattle.keyframe.specs.Stepping.{update_of, reset_of, seek_to_of, ran, left_by_update}

-- a new track is within its limits, and a call that is handed one within them hands one back within them
abbrev pub NewWithin : Type 0
NewWithin = Fine new_track

abbrev pub PushWithin : Type 0
PushWithin = (t : Track) → Fine t → (k : Keyframe) → Fine (left_by (push_of t k))

abbrev pub ModeWithin : Type 0
ModeWithin = (t : Track) → Fine t → (m : Loop) → Fine (left_by (looping_of t m))

abbrev pub UpdateWithin : Type 0
UpdateWithin = (t : Track) → Fine t → (dt : Float) → Fine (left_by_update (update_of t dt))

abbrev pub ResetWithin : Type 0
ResetWithin = (t : Track) → Fine t → Fine (left_by (reset_of t))

abbrev pub SeekWithin : Type 0
SeekWithin = (t : Track) → Fine t → (p : Float) → Fine (left_by (seek_to_of t p))

-- "times strictly ascending"
abbrev pub Ascending : Type 0
Ascending =
    (t : Track) → Fine t → (i j : ℕ) → i < j → j < length (frames_in t)
    → T (lt (slice_index_or (frames_in t) i no_frame).time (slice_index_or (frames_in t) j no_frame).time)

-- "Push at an equal time replaces": where a push is done, a sample at its time equals the value that was pushed
abbrev pub PushSampled : Type 0
PushSampled =
    (t : Track) → Fine t → (k : Keyframe) (u : Track) → T (fits binary32 k.value) → push_of t k ≡ Ok u
    → eq (sample_of (frames_in u) k.time).value k.value ≡ true

-- each sample is finite
abbrev pub SampleReal : Type 0
SampleReal = (t : Track) → Fine t → 0 < length (frames_in t) → (secs : Float) → T (is_finite (sample_of (frames_in t) secs).value)

-- "at or before the first time, the first value"
abbrev pub AtFirst : Type 0
AtFirst =
    (t : Track) → Fine t → 0 < length (frames_in t)
    → (secs : Float) → T (le secs (first_of (frames_in t)).time) → sample_of (frames_in t) secs ≡ own_of (first_of (frames_in t))

-- "at or after the last, the last"
abbrev pub AtLast : Type 0
AtLast =
    (t : Track) → Fine t → 0 < length (frames_in t)
    → (secs : Float) → T (le (last_of (frames_in t)).time secs) → sample_of (frames_in t) secs ≡ own_of (last_of (frames_in t))

-- the source's answer to an update, `running`: not complete, and two frames or more
abbrev pub Running : Type 0
Running = (t u : Track) (dt : Float) (b : Bool) → update_of t dt ≡ ran u b → b ≡ not (done_of u)
