-- The mark changes no value: what `value` and `eased_progress` answer is document 01's value with the search behind it. Assumes nothing.
use Rattle.std.specs.Prelude.{Err, Ok, Result}
use Rattle.std.proofs.Common.{◌≡◌, refl, ap, ◌∙◌}
use lib.Ieee.{eq}
use Rattle.math.specs.Rounded.{zero_f}
use Rattle.math.proofs.Choice.{of-picked}
use Rattle.easing.specs.Apply.{apply_of}
use Rattle.easing.specs.Values.{value_part}
use Rattle.easing.proofs.Unchanged.{apply-unchanged}
use Rattle.tween.specs.declared.record.Tween.{Tween}
use Rattle.tween.specs.Limits.{within_of}
use Rattle.tween.specs.Calls.{progress_in, eased_progress_of, blend_in, value_of}
use Rattle.tween.specs.Values.{eased_progress_alone, blend_alone, value_alone, EasedProgressUnchanged, ValueUnchanged}
use Rattle.bezier.specs.declared.types.Found.{Found}
use Rattle.refusal.specs.declared.Refusal.{Refusal}

pub eased-progress-unchanged : EasedProgressUnchanged
unfolding eased_progress_of eased_progress_alone
eased-progress-unchanged t = of-picked value_part (within_of t) _ _ _ _ (apply-unchanged t.easing (progress_in t)) refl

blend-unchanged : (t : Tween) (a : Result Found Refusal) → value_part (blend_in t a) ≡ blend_alone t (value_part a)
blend-unchanged t (Ok f) = refl
blend-unchanged t (Err r) = refl

pub value-unchanged : ValueUnchanged
unfolding value_of value_alone
value-unchanged t =
    of-picked value_part (within_of t) _ _ _ _
    (of-picked value_part (eq t.duration zero_f) _ _ _ _ refl (blend-unchanged t (apply_of t.easing (progress_in t)) ∙ ap (blend_alone t) (apply-unchanged t.easing (progress_in t))))
    refl
