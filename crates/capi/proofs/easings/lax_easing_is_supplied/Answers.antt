-- `lax_easing_is_supplied` meets its contract, by what its callees ensure. Assumes nothing.
use mathlib.Core.Path.{◌∙◌}
use Rattle.capi.specs.Easings.{lax_easing_is_supplied}
use Rattle.capi.proofs.easings.lax_easing_is_supplied.Goals as goal

pub returns-in-Some : goal.returns-in-Some
unfolding lax_easing_is_supplied
returns-in-Some c = c.put_flag.ensures ∙ simp (← (rw c.easing_in.ensures at c.easing_of.ensures), c.in-Some.is, c.is_supplied.ensures)

pub returns-in-None : goal.returns-in-None
unfolding lax_easing_is_supplied
returns-in-None c = simp (← (rw c.easing_in.ensures at c.easing_of.ensures), c.in-None.is)
