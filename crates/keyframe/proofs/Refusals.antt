-- What the outcomes by parts make of a track is what the track's own definitions have, and what is known where a call is not refused. Assumes nothing.
use Rattle.std.specs.Prelude.{Err, Ok, Result, ⊤}
use Rattle.std.proofs.Common.{◌≡◌, ℕ, ◌<◌, ◌≤◌, Bool, true, false, cond, eqb, ltb, leb, List, length, refl, ap, ◌∙◌, arith, ltb-true, leb-true}
use lib.Ieee.{Float, is_nan}
use Rattle.math.specs.Range.{clamp01_of}
use Rattle.math.proofs.Choice.{of-picked}
use Rattle.refusal.specs.declared.Refusal.{Refusal}
use Rattle.refusal.specs.declared.Refusal.TheVariants.{EasingNotSupplied, EasingParameter, NoFrames, TrackLimit, OutputTooShort}
use Rattle.refusal.specs.Number.{number_of}
use Rattle.bezier.specs.declared.types.Found.{Found}
use Rattle.easing.specs.declared.kinds.Easing.{Easing}
use Rattle.easing.specs.Kinds.{supplied_of}
use Rattle.easing.specs.Params as params
use Rattle.loop_mode.specs.declared.Loop.{Loop}
use Rattle.frames.specs.declared.frame.Keyframe.{Keyframe}
use Rattle.frames.specs.declared.frame.Put.{Put}
use Rattle.frames.specs.Pushing.{put_of}
use Rattle.frames.specs.Sampling.{sample_of}
use Rattle.keyframe.specs.declared.types.Track.{Track}
use Rattle.keyframe.specs.Limits.{base_of, end_of, frames_in, mode_fits, within_of}
use Rattle.keyframe.specs.Pushing.{stored_of, takes_of, with_frames, with_mode, placed_of, push_of, looping_of}
use Rattle.keyframe.specs.Sampling.{value_at_of}
use Rattle.keyframe.specs.Batch.{batch_number}
use Rattle.keyframe.specs.Stepping.{sought_of, seek_to_of}
use Rattle.keyframe.specs.Inner.{takes_at, push_outcome, room_outcome, looping_outcome, sample_outcome, fill_outcome, seek_outcome}
use Rattle.refusal.specs.declared.rejected.Rejected.{Rejected}
use Rattle.refusal.specs.Refusing.{rejected, done}

-- what a call answers by its outcome: `next` where it is done
abbrev pub changed_by : Track → Result Track (Rejected Track) → Result ⊤ Refusal → Result Track (Rejected Track)
changed_by t next (Ok tt) = next
changed_by t next (Err r) = rejected t r

abbrev pub sampled_by : Found → Result ⊤ Refusal → Result Found Refusal
sampled_by found (Ok tt) = Ok found
sampled_by found (Err r) = Err r

abbrev pub number_by : Result ⊤ Refusal → ℕ
number_by (Ok tt) = 0
number_by (Err r) = number_of r

-- a place is found, or the frames come back as they were
pub place-by : (t : Track) (p : Put) (full : Bool) (o : Result ⊤ Refusal) → o ≡ room_outcome full → changed_by t (Ok (with_frames t p.frames p.count)) o ≡ placed_of t (cond full (Err p) (Ok p))
unfolding room_outcome placed_of
place-by t p true o e = rw e
place-by t p false o e = rw e

module _ (t : Track) (within : within_of t ≡ true) where
  -- `last` and the frame as they are known
  module _ (k frame : Keyframe) (last : Float) (at_last : last ≡ base_of t) (stored : frame ≡ stored_of k) where
    pub push-by : (o : Result ⊤ Refusal) → o ≡ push_outcome k.easing t.looping last frame.time frame.value
        → changed_by t (placed_of t (put_of t.frames t.count frame)) o ≡ push_of t k
    unfolding push_outcome push_of takes_of
    push-by o e =
        let by : Result ⊤ Refusal → Result Track (Rejected Track) = changed_by t (placed_of t (put_of t.frames t.count (stored_of k))) in
        rw (stored, within)
        (ap by (rw (stored, at_last) at e)
        ∙ of-picked by (supplied_of k.easing) _ _ _ _
        (of-picked by (params.within_of (params.params_of k.easing)) _ _ _ _
        (of-picked by (takes_at t.looping (base_of t) (stored_of k).time k.value) _ _ _ _ refl refl) refl) refl)

  pub looping-by : (m : Loop) (o : Result ⊤ Refusal) → o ≡ looping_outcome m (base_of t) → changed_by t (Ok (with_mode t m)) o ≡ looping_of t m
  unfolding looping_outcome looping_of
  looping-by m o e = let by : Result ⊤ Refusal → Result Track (Rejected Track) = changed_by t (Ok (with_mode t m)) in rw within (ap by e ∙ of-picked by (mode_fits m (base_of t)) _ _ _ _ refl refl)

  pub seek-by : (p : Float) (o : Result ⊤ Refusal) → o ≡ seek_outcome p → changed_by t (Ok (sought_of (end_of t.looping (base_of t)) t (clamp01_of p))) o ≡ seek_to_of t p
  unfolding seek_outcome seek_to_of
  seek-by p o e =
      let by : Result ⊤ Refusal → Result Track (Rejected Track) = changed_by t (Ok (sought_of (end_of t.looping (base_of t)) t (clamp01_of p))) in
      rw within (ap by e ∙ of-picked by (is_nan p) _ _ _ _ refl refl)

  pub sample-by : (secs : Float) (o : Result ⊤ Refusal) → o ≡ sample_outcome t.count → sampled_by (sample_of (frames_in t) secs) o ≡ value_at_of t secs
  unfolding sample_outcome value_at_of
  sample-by secs o e = let by : Result ⊤ Refusal → Result Found Refusal = sampled_by (sample_of (frames_in t) secs) in rw within (ap by e ∙ of-picked by (ltb 0 t.count) _ _ _ _ refl refl)

  pub fill-by : (times out : List Float) (o : Result ⊤ Refusal) → o ≡ fill_outcome t.count (length times) (length out) → number_by o ≡ batch_number t times out
  unfolding fill_outcome batch_number
  fill-by times out o e =
      rw within
      (ap number_by e
      ∙ of-picked number_by (ltb 0 t.count) _ _ _ _ (of-picked number_by (leb (length times) (length out)) _ _ _ _ refl refl) refl)

-- a push that is not refused
pub push-taken : (e : Easing) (m : Loop) (last time value : Float) → done ≡ push_outcome e m last time value
    → (supplied_of e ≡ true) × (params.within_of (params.params_of e) ≡ true) × (takes_at m last time value ≡ true)
unfolding push_outcome
push-taken e m last time value = go (supplied_of e) (params.within_of (params.params_of e)) (takes_at m last time value)
  where
    go : (s p t : Bool) → done ≡ cond s (cond p (cond t done (Err TrackLimit)) (Err EasingParameter)) (Err EasingNotSupplied) → (s ≡ true) × (p ≡ true) × (t ≡ true)
    go true true true h = (refl, refl, refl)
    go true true false h = absurd (omega (arith, ap number_by h))
    go true false t h = absurd (omega (arith, ap number_by h))
    go false p t h = absurd (omega (arith, ap number_by h))

-- samples that are not refused
pub sample-some : (n : ℕ) → done ≡ sample_outcome n → 0 < n
unfolding sample_outcome
sample-some n h = ltb-true 0 n (go (ltb 0 n) h)
  where
    go : (b : Bool) → done ≡ cond b done (Err NoFrames) → b ≡ true
    go true h = refl
    go false h = absurd (omega (arith, ap number_by h))

pub fill-fits : (n times room : ℕ) → done ≡ fill_outcome n times room → (0 < n) × (times ≤ room)
unfolding fill_outcome
fill-fits n times room h = let f = go (ltb 0 n) (leb times room) h in (ltb-true 0 n f.0, leb-true times room f.1)
  where
    go : (a b : Bool) → done ≡ cond a (cond b done (Err OutputTooShort)) (Err NoFrames) → (a ≡ true) × (b ≡ true)
    go true true h = (refl, refl)
    go true false h = absurd (omega (arith, ap number_by h))
    go false b h = absurd (omega (arith, ap number_by h))

-- where one sample is refused, many are; and the refusal has a number
pub fill_none : (n times room : ℕ) (r : Refusal) → Err r ≡ sample_outcome n → Err r ≡ fill_outcome n times room
unfolding sample_outcome fill_outcome
fill_none n times room r = go (ltb 0 n)
  where
    go : (a : Bool) → Err r ≡ cond a done (Err NoFrames) → Err r ≡ cond a (cond (leb times room) done (Err OutputTooShort)) (Err NoFrames)
    go true h = let z : ◌≡◌ {A = ℕ} 0 1 = cc in absurd (omega (arith, z))
    go false h = h

pub fill-number : (n times room : ℕ) (r : Refusal) → Err r ≡ fill_outcome n times room → eqb (number_of r) 0 ≡ false
unfolding fill_outcome
fill-number n times room r = go (ltb 0 n) (leb times room)
  where
    go : (a b : Bool) → Err r ≡ cond a (cond b done (Err OutputTooShort)) (Err NoFrames) → eqb (number_of r) 0 ≡ false
    go true true h = let z : ◌≡◌ {A = ℕ} 0 1 = cc in absurd (omega (arith, z))
    go true false h = ap (λ (o : Result ⊤ Refusal). eqb (number_by o) 0) h
    go false b h = ap (λ (o : Result ⊤ Refusal). eqb (number_by o) 0) h
