-- `params_of` meets its contract: the seven kinds are told their parameters, and no other kind has any. Assumes nothing.
use borrow.Author.Tests.{not-true}
use mathlib.Core.Bool.{not}
use mathlib.Core.Path.{◌∙◌, sym}
use borrow.Enum.Refused.{opened}
use Rattle.easing.specs.Kinds.{number_of}
use Rattle.easing.specs.Params.{params_of, with_params}
use Rattle.easing.proofs.Tags.{among, all_but, seven, told, by-tag}
use Rattle.easing.proofs.params.params_of.Goals as goal

pub returns-in-CubicBezier : goal.returns-in-CubicBezier
unfolding params_of with_params
returns-in-CubicBezier c = simp (c.new.ensures, c.in-CubicBezier.is)

pub returns-in-Steps : goal.returns-in-Steps
unfolding params_of with_params
returns-in-Steps c = simp (c.new-in-Steps.ensures, c.in-Steps.is)

pub returns-in-RoughEase : goal.returns-in-RoughEase
unfolding params_of with_params
returns-in-RoughEase c = simp (c.new-in-RoughEase.ensures, c.in-RoughEase.is)

pub returns-in-SlowMo : goal.returns-in-SlowMo
unfolding params_of with_params
returns-in-SlowMo c = simp (c.new-in-SlowMo.ensures, c.in-SlowMo.is)

pub returns-in-Wiggle : goal.returns-in-Wiggle
unfolding params_of with_params
returns-in-Wiggle c = simp (c.new-in-Wiggle.ensures, c.in-Wiggle.is)

pub returns-in-CustomBounce : goal.returns-in-CustomBounce
unfolding params_of with_params
returns-in-CustomBounce c = simp (c.new-in-CustomBounce.ensures, c.in-CustomBounce.is)

pub returns-in-ExpoScale : goal.returns-in-ExpoScale
unfolding params_of with_params
returns-in-ExpoScale c = simp (c.new-in-ExpoScale.ensures, c.in-ExpoScale.is)

pub returns-in_default : goal.returns-in_default
unfolding params_of with_params
returns-in_default c = c.new-in_default.ensures ∙ sym ((told c.args.e).plain (not-true _ (by-tag (λ e. not (among seven (number_of e))) (all_but seven) c.args.e tt (opened c.in_default.in_default-own.keys8))))
