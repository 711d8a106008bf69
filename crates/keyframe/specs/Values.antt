-- Document 01's answers without request 1's mark: the values alone, or the refusal.
use Rattle.std.specs.Prelude.{◌≡◌, ◌⊎◌, List, ◌==◌, nat_lt, Float}
use Rattle.std.proofs.Common.{inl, inr}
use Rattle.refusal.specs.declared.Refusal.{Refusal}
use Rattle.refusal.specs.declared.Refusal.TheVariants.{RecordBreaksLimit, NoFrames}
use Rattle.refusal.specs.Refusing.{unless}
use Rattle.easing.specs.Values.{value_part}
use Rattle.frames.specs.Values.{sample_alone, filled_alone}
use Rattle.keyframe.specs.declared.types.Track.{Track}
use Rattle.keyframe.specs.Limits.{frames_in, within_of}
use Rattle.keyframe.specs.Playback.{active_of}
use Rattle.keyframe.specs.Sampling.{value_at_of, value_now}
use Rattle.keyframe.specs.Batch.{batch_number, batch_out}

unfoldable pub value_at_alone : Track → Float → Refusal ⊎ Float
value_at_alone t secs =
    unless (within_of t) (inl RecordBreaksLimit)
    (unless (nat_lt 0 t.count) (inl NoFrames)
    (inr (sample_alone (frames_in t) secs)))

unfoldable pub batch_alone : Track → List Float → List Float → List Float
batch_alone t times out = unless (batch_number t times out == 0) out (filled_alone (frames_in t) times out)

-- Request 1: "Values don't change. No new refusals"
abbrev pub ValueUnchanged : Type 0
ValueUnchanged = (t : Track) (secs : Float) → value_part (value_at_of t secs) ≡ value_at_alone t secs

abbrev pub NowUnchanged : Type 0
NowUnchanged = (t : Track) → value_part (value_now t) ≡ value_at_alone t (active_of t)

abbrev pub BatchUnchanged : Type 0
BatchUnchanged = (t : Track) (times out : List Float) → batch_out t times out ≡ batch_alone t times out
