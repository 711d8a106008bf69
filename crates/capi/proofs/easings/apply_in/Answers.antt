-- `apply_in` meets its contract, by what its callees ensure. Assumes nothing.
use mathlib.Core.Path.{◌∙◌}
use Rattle.capi.specs.Easings.{lax_easing_apply}
use Rattle.capi.proofs.easings.apply_in.Goals as goal

pub returns-in-Some : goal.returns-in-Some
unfolding lax_easing_apply
returns-in-Some c = c.put_found.ensures ∙ simp (← (rw c.easing_in.ensures at c.easing_of.ensures), c.in-Some.is, c.apply.ensures)

pub returns-in-None : goal.returns-in-None
unfolding lax_easing_apply
returns-in-None c = simp (← (rw c.easing_in.ensures at c.easing_of.ensures), c.in-None.is)
