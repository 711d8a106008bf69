-- Document 01, "The track" and "Refusal numbers": the value of a track at a time.
use Rattle.std.specs.Prelude.{nat_lt, Float, Err, Ok, Result}
use Rattle.refusal.specs.declared.Refusal.TheVariants.{RecordBreaksLimit, NoFrames}
use Rattle.refusal.specs.Refusing.{unless}
use Rattle.frames.specs.Sampling.{sample_of}
use Rattle.keyframe.specs.declared.types.Track.{Track}
use Rattle.keyframe.specs.Limits.{frames_in, within_of}
use Rattle.keyframe.specs.Playback.{active_of}
use Rattle.bezier.specs.declared.types.Found.{Found}
use Rattle.refusal.specs.declared.Refusal.{Refusal}

-- 4, then 10: "sampling a track with no frames"
unfoldable pub value_at_of : Track → Float → Result Found Refusal
value_at_of t secs =
    unless (within_of t) (Err RecordBreaksLimit)
    (unless (nat_lt 0 t.count) (Err NoFrames)
    (Ok (sample_of (frames_in t) secs)))

-- at the active time
abbrev pub value_now : Track → Result Found Refusal
value_now t = value_at_of t (active_of t)
