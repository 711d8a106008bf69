-- The steps that an update refuses with 6: exactly those that are lost, those of before among them, and none of whole numbers. Assumes nothing.
use Rattle.std.specs.Prelude.{Err, None, Ok, Option, Result, Some}
use Rattle.std.proofs.Common.{◌≡◌, Bool, true, false, cond, not, ◌&&◌, T, refl, arith}
use mathlib.Core.Path.{subst⁻¹}
use lib.Ieee.{Float, lt, le}
use Rattle.math.specs.Rounded.{◌⊕◌, zero_f, top_f}
use Rattle.math.specs.Range.{max_zero_of}
use Rattle.math.proofs.Choice.{and-weaker}
use Rattle.math.proofs.Losses.{still-lost as sum-still, step_kept}
use Rattle.refusal.specs.declared.Refusal.TheVariants.{RecordBreaksLimit, StepTooLong, StepLost, ElapsedTooLong}
use Rattle.refusal.specs.Number.{number_of}
use Rattle.keyframe.specs.declared.types.Track.{Track}
use Rattle.keyframe.specs.declared.types.Updated.{Updated}
use Rattle.keyframe.specs.Limits.{base_of, end_of, within_of}
use Rattle.keyframe.specs.Playback.{done_of}
use Rattle.keyframe.specs.Stepping.{ran, lost_of, advance_of, update_of}
use Rattle.keyframe.specs.Losses.{UpdateSixExactly, StillLost, WholeKept}
use Rattle.refusal.specs.Refusing.{rejected}
use Rattle.refusal.specs.declared.rejected.Rejected.{Rejected}

abbrev Six : Result Updated (Rejected Track) → Type 0
Six (Ok u) = ⊥
Six (Err r) = number_of r.refusal ≡ 6

module _ (t : Track) (dt : Float) where
  -- a step that is taken, and one that would pass the limit
  no_six : (end : Option Float) (sum : Float) → Six (advance_of end t sum) → ⊥
  unfolding advance_of
  no_six (Some total) sum h = taken (le total sum) _ _ _ _ h
    where
      taken : (b : Bool) (u v : Track) (r s : Bool) → Six (cond b (ran u r) (ran v s)) → ⊥
      taken true u v r s h = h
      taken false u v r s h = h
  no_six None sum h = passed (lt top_f sum) _ _ h
    where
      passed : (b : Bool) (u : Track) (r : Bool) → Six (cond b (rejected t ElapsedTooLong) (ran u r)) → ⊥
      passed true u r h = omega (arith, h)
      passed false u r h = h

  next : Result Updated (Rejected Track)
  next = advance_of (end_of t.looping (base_of t)) t (t.elapsed ⊕ max_zero_of dt)

  -- an update, by its four tests: within its limits, the step too long, nothing to do, the step lost
  abbrev tested : Bool → Bool → Bool → Bool → Result Updated (Rejected Track)
  tested a b c d = cond a (cond b (rejected t StepTooLong) (cond c (ran t false) (cond d (rejected t StepLost) next))) (rejected t RecordBreaksLimit)

  six-reaches : (a b c d : Bool) → Six (tested a b c d) → T (a && not b && not c && d)
  unfolding next
  six-reaches true false false true h = tt
  six-reaches true false false false h = absurd (no_six (end_of t.looping (base_of t)) (t.elapsed ⊕ max_zero_of dt) h)
  six-reaches true false true d h = absurd h
  six-reaches true true c d h = absurd (omega (arith, h))
  six-reaches false b c d h = absurd (omega (arith, h))

  reaches-six : (a b c d : Bool) → T (a && not b && not c && d) → tested a b c d ≡ rejected t StepLost
  reaches-six true false false true h = refl
  reaches-six true false false false h = absurd h
  reaches-six true false true d h = absurd h
  reaches-six true true c d h = absurd h
  reaches-six false b c d h = absurd h

pub update-six-exactly : UpdateSixExactly
unfolding update_of next
update-six-exactly t dt =
    let lost = lost_of t.elapsed (max_zero_of dt) in
    (λ h. six-reaches t dt (within_of t) (lt top_f dt) (done_of t) lost (subst⁻¹ Six h refl), reaches-six t dt (within_of t) (lt top_f dt) (done_of t) lost)

pub still-lost : StillLost
still-lost elapsed step = and-weaker (lt zero_f step) _ _ (sum-still elapsed step (elapsed ⊕ step))

pub whole-kept : WholeKept
whole-kept elapsed step a b v w h = step_kept elapsed step a b v w h
