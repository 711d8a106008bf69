-- `is_supplied` meets its contract: the kinds of the first arm have no curve, and those of the second have one. Assumes nothing.
use borrow.Author.Tests.{not-true}
use mathlib.Core.Bool.{not}
use mathlib.Core.Path.{sym}
use borrow.Enum.Refused.{opened}
use Rattle.easing.specs.Kinds.{supplied_of}
use Rattle.easing.specs.Params.{with_params}
use Rattle.easing.proofs.Tags.{all_but, twelve, by-tag}
use Rattle.easing.proofs.kinds.Easing.is_supplied.Goals as goal

pub returns-in-EaseInSine : goal.returns-in-EaseInSine
unfolding supplied_of with_params
returns-in-EaseInSine c = sym (not-true _ (by-tag (λ e. not (supplied_of e)) twelve c.args.self tt c.in-EaseInSine.in-EaseInSine-own.keys1))

pub returns-in_default : goal.returns-in_default
unfolding supplied_of with_params
returns-in_default c = sym (by-tag supplied_of (all_but twelve) c.args.self tt (opened c.in_default.in_default-own.keys2))
