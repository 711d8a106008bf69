-- The mark changes no value: what `apply` answers is document 01's value with the search behind it. Assumes nothing.
use Rattle.std.specs.Prelude.{Option, None, Some}
use mathlib.Core.Bool.{Bool, true, false}
use mathlib.Core.Path.{◌≡◌, refl}
use lib.Ieee.{Float, is_nan}
use Rattle.math.specs.Range.{clamp01_of}
use Rattle.math.proofs.Choice.{of-picked}
use Rattle.bezier.specs.declared.types.Solved.{Solved}
use Rattle.easing.specs.Kinds.{curve_of}
use Rattle.easing.specs.Params.{params_of, within_of}
use Rattle.easing.specs.Apply.{search_of, eased_at, apply_of}
use Rattle.easing.specs.Values.{value_part, curve_alone, apply_alone, ApplyUnchanged}

at-unchanged : (c : Option (Float → Float)) (search : Float → Solved) (fine : Bool) (t : Float) → value_part (eased_at c search fine t) ≡ curve_alone c fine t
at-unchanged None search fine t = refl
at-unchanged (Some f) search true t = refl
at-unchanged (Some f) search false t = refl

pub apply-unchanged : ApplyUnchanged
unfolding apply_of apply_alone
apply-unchanged e t = of-picked value_part (is_nan t) _ _ _ _ refl (at-unchanged (curve_of e) (search_of e) (within_of (params_of e)) (clamp01_of t))
