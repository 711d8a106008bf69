-- Document 01's answers without request 1's mark, "The tween": the value and the eased progress alone, or the refusal.
use Rattle.std.specs.Prelude.{◌≡◌, cond, ◌⊎◌, Float}
use Rattle.std.proofs.Common.{inl, inr}
use Rattle.std.specs.Float.Ieee.{eq}
use Rattle.math.specs.Rounded.{zero_f}
use Rattle.refusal.specs.declared.Refusal.{Refusal}
use Rattle.refusal.specs.declared.Refusal.TheVariants.{RecordBreaksLimit}
use Rattle.refusal.specs.Refusing.{unless}
use Rattle.easing.specs.Values.{value_part, apply_alone}
use Rattle.tween.specs.declared.record.Tween.{Tween}
use Rattle.tween.specs.Limits.{within_of}
use Rattle.tween.specs.Calls.{progress_in, eased_progress_of, blend_at, value_of}

-- the curve at the tween's progress
unfoldable pub eased_progress_alone : Tween → Refusal ⊎ Float
eased_progress_alone t = unless (within_of t) (inl RecordBreaksLimit) (apply_alone t.easing (progress_in t))

abbrev pub blend_alone : Tween → Refusal ⊎ Float → Refusal ⊎ Float
blend_alone t (inl r) = inl r
blend_alone t (inr c) = inr (blend_at t c)

-- "`value` is end if duration is 0; else the blend at the eased elapsed / duration"
unfoldable pub value_alone : Tween → Refusal ⊎ Float
value_alone t =
    unless (within_of t) (inl RecordBreaksLimit)
    (cond (eq t.duration zero_f) (inr t.end) (blend_alone t (apply_alone t.easing (progress_in t))))

-- Request 1: "Values don't change. No new refusals"
abbrev pub EasedProgressUnchanged : Type 0
EasedProgressUnchanged = (t : Tween) → value_part (eased_progress_of t) ≡ eased_progress_alone t

abbrev pub ValueUnchanged : Type 0
ValueUnchanged = (t : Tween) → value_part (value_of t) ≡ value_alone t
