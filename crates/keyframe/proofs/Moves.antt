-- The cases of an update, of a reset and of a seek. Assumes nothing.
use Rattle.std.proofs.Common.{◌≡◌, true, false, Result}
use lib.Ieee.{Float, lt}
use Rattle.math.specs.Rounded.{◌⊕◌, top_f}
use Rattle.math.specs.Range.{max_zero_of}
use Rattle.math.proofs.Choice.{by-test}
use Rattle.refusal.specs.declared.Refusal.{Refusal}
use Rattle.refusal.specs.declared.Refusal.TheVariants.{RecordBreaksLimit, StepTooLong, StepLost}
use Rattle.keyframe.specs.declared.types.Track.{Track}
use Rattle.keyframe.specs.declared.types.Updated.{Updated}
use Rattle.keyframe.specs.Limits.{base_of, end_of, within_of}
use Rattle.keyframe.specs.Playback.{done_of}
use Rattle.keyframe.specs.Stepping.{ran, lost_of, advance_of, update_of, seek_to_of}
use Rattle.refusal.specs.Refusing.{rejected}
use Rattle.refusal.specs.declared.rejected.Rejected.{Rejected}

pub step-broken : (t : Track) (dt : Float) → within_of t ≡ false → rejected t RecordBreaksLimit ≡ update_of t dt
unfolding update_of
step-broken t dt w = rw w

-- an update is refused, changes nothing, or takes its step
pub by-update : (C : Result Updated (Rejected Track) → Type 0) (t : Track) (dt : Float) → ((r : Refusal) → C (rejected t r)) → (done_of t ≡ true → C (ran t false))
    → (done_of t ≡ false → C (advance_of (end_of t.looping (base_of t)) t (t.elapsed ⊕ max_zero_of dt))) → C (update_of t dt)
unfolding update_of
by-update C t dt refuse done take =
    by-test C (within_of t) _ _
    (λ _.
    by-test C (lt top_f dt) _ _ (λ _. refuse StepTooLong)
    (λ _. by-test C (done_of t) _ _ done (λ d. by-test C (lost_of t.elapsed (max_zero_of dt)) _ _ (λ _. refuse StepLost) (λ _. take d))))
    (λ _. refuse RecordBreaksLimit)

pub seek-broken : (t : Track) (p : Float) → within_of t ≡ false → rejected t RecordBreaksLimit ≡ seek_to_of t p
unfolding seek_to_of
seek-broken t p w = rw w
