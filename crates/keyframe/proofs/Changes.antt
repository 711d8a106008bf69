-- The cases of a push and of a change of mode. Assumes nothing.
use Rattle.std.proofs.Common.{◌≡◌, Bool, true, false, Result}
use Rattle.math.proofs.Choice.{by-test}
use Rattle.refusal.specs.declared.Refusal.{Refusal}
use Rattle.refusal.specs.declared.Refusal.TheVariants.{RecordBreaksLimit, EasingNotSupplied, EasingParameter, TrackLimit}
use Rattle.easing.specs.declared.kinds.Easing.{Easing}
use Rattle.easing.specs.Kinds.{supplied_of}
use Rattle.easing.specs.Params as params
use Rattle.easing.specs.Apply.{fits_record_of}
use Rattle.loop_mode.specs.declared.Loop.{Loop}
use Rattle.frames.specs.declared.frame.Keyframe.{Keyframe}
use Rattle.frames.specs.Pushing.{put_of}
use Rattle.keyframe.specs.declared.types.Track.{Track}
use Rattle.keyframe.specs.Limits.{within_of}
use Rattle.keyframe.specs.Pushing.{stored_of, takes_of, placed_of, push_of, looping_of}
use Rattle.refusal.specs.Refusing.{rejected}
use Rattle.refusal.specs.declared.rejected.Rejected.{Rejected}

-- of a supplied kind the parameters are what is left to fit
pub fits-params : (e : Easing) (b : Bool) → supplied_of e ≡ true → fits_record_of e ≡ b → params.within_of (params.params_of e) ≡ b
unfolding fits_record_of
fits-params e b s h = rw s at h

pub push-broken : (t : Track) (k : Keyframe) → within_of t ≡ false → rejected t RecordBreaksLimit ≡ push_of t k
unfolding push_of
push-broken t k w = rw w

-- a push is refused, or the frame is placed
pub by-push : (C : Result Track (Rejected Track) → Type 0) (t : Track) (k : Keyframe) → ((r : Refusal) → C (rejected t r))
    → (supplied_of k.easing ≡ true → params.within_of (params.params_of k.easing) ≡ true → takes_of t (stored_of k) ≡ true
    → C (placed_of t (put_of t.frames t.count (stored_of k)))) → C (push_of t k)
unfolding push_of
by-push C t k refuse place =
    by-test C (within_of t) _ _
    (λ _.
    by-test C (supplied_of k.easing) _ _
    (λ s.
    by-test C (params.within_of (params.params_of k.easing)) _ _
    (λ p. by-test C (takes_of t (stored_of k)) _ _ (λ h. place s p h) (λ _. refuse TrackLimit))
    (λ _. refuse EasingParameter))
    (λ _. refuse EasingNotSupplied))
    (λ _. refuse RecordBreaksLimit)

pub mode-broken : (t : Track) (m : Loop) → within_of t ≡ false → rejected t RecordBreaksLimit ≡ looping_of t m
unfolding looping_of
mode-broken t m w = rw w
