-- Document 01's answers without request 1's mark: the values alone, or the refusal.
use Rattle.std.specs.Prelude.{◌≡◌, Bool, ◌⊎◌, Float, Err, Ok, Result, Option, Some, None}
use Rattle.std.proofs.Common.{inl, inr}
use Rattle.std.specs.Float.Ieee.{is_nan}
use Rattle.math.specs.Range.{clamp01_of}
use Rattle.refusal.specs.declared.Refusal.{Refusal}
use Rattle.refusal.specs.declared.Refusal.TheVariants.{ProgressIsNan, EasingNotSupplied, EasingParameter}
use Rattle.refusal.specs.Refusing.{unless, when}
use Rattle.easing.specs.declared.kinds.Easing.{Easing}
use Rattle.easing.specs.Kinds.{curve_of}
use Rattle.easing.specs.Params.{params_of, within_of}
use Rattle.easing.specs.Apply.{apply_of}
use Rattle.bezier.specs.declared.types.Found.{Found}

-- what is left of an answer without the search behind it
abbrev pub value_part : Result Found Refusal → Refusal ⊎ Float
value_part (Ok f) = inr f.value
value_part (Err r) = inl r

abbrev pub curve_alone : Option (Float → Float) → Bool → Float → Refusal ⊎ Float
curve_alone None fine t = inl EasingNotSupplied
curve_alone (Some curve) fine t = unless fine (inl EasingParameter) (inr (curve t))

unfoldable pub apply_alone : Easing → Float → Refusal ⊎ Float
apply_alone e t =
    when (is_nan t) (inl ProgressIsNan)
    (curve_alone (curve_of e) (within_of (params_of e)) (clamp01_of t))

-- Request 1: "Values don't change. No new refusals"
abbrev pub ApplyUnchanged : Type 0
ApplyUnchanged = (e : Easing) (t : Float) → value_part (apply_of e t) ≡ apply_alone e t
