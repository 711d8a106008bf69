-- The mark changes no value: the value at a time, the value at the active time and what a batch writes are document 01's. Assumes nothing.
use Rattle.std.specs.Prelude.{Err, Ok}
use Rattle.std.proofs.Common.{ltb, refl, ap, inr}
use Rattle.math.proofs.Choice.{of-picked}
use Rattle.refusal.specs.declared.Refusal.TheVariants.{RecordBreaksLimit, NoFrames}
use Rattle.refusal.specs.Refusing.{unless}
use Rattle.easing.specs.Values.{value_part}
use Rattle.frames.specs.Sampling.{sample_of}
use Rattle.frames.proofs.Unchanged.{sample-unchanged, filled-unchanged}
use Rattle.keyframe.specs.Limits.{frames_in, within_of}
use Rattle.keyframe.specs.Playback.{active_of}
use Rattle.keyframe.specs.Sampling.{value_at_of}
use Rattle.keyframe.specs.Batch.{batch_out}
use Rattle.keyframe.specs.Values.{value_at_alone, batch_alone, ValueUnchanged, NowUnchanged, BatchUnchanged}

pub value-unchanged : ValueUnchanged
unfolding value_at_of value_at_alone
value-unchanged t secs =
    let s = Ok (sample_of (frames_in t) secs) in
    of-picked value_part (within_of t) (unless (ltb 0 t.count) (Err NoFrames) s) (Err RecordBreaksLimit) _ _ (of-picked value_part (ltb 0 t.count) s (Err NoFrames) _ _ (ap inr (sample-unchanged (frames_in t) secs)) refl) refl

pub now-unchanged : NowUnchanged
now-unchanged t = value-unchanged t (active_of t)

pub batch-unchanged : BatchUnchanged
unfolding batch_out batch_alone
batch-unchanged t times out = rw (filled-unchanged (frames_in t) times out)
