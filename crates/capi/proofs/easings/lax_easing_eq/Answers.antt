-- `lax_easing_eq` meets its contract, by what its callees ensure. Assumes nothing.
use mathlib.Core.Path.{◌∙◌}
use Rattle.capi.specs.Easings.{equality_in, lax_easing_eq}
use Rattle.capi.proofs.easings.lax_easing_eq.Goals as goal

pub returns-in_default : goal.returns-in_default
unfolding lax_easing_eq equality_in
returns-in_default c = simp (← (rw c.easing_in.ensures at c.easing_of.ensures), c.in_default.is)

pub returns-in_default-easing_of : goal.returns-in_default-easing_of
unfolding lax_easing_eq equality_in
returns-in_default-easing_of c = simp (← (rw c.easing_in.ensures at c.easing_of.ensures), c.in-Some.is, ← (rw c.easing_in-2.ensures at c.easing_of-2.ensures), c.in_default-easing_of.is)

pub returns-in-Ok : goal.returns-in-Ok
unfolding lax_easing_eq equality_in
returns-in-Ok c = c.put_flag.ensures ∙ simp (← (rw c.easing_in.ensures at c.easing_of.ensures), c.in-Some.is, ← (rw c.easing_in-2.ensures at c.easing_of-2.ensures), c.in-Some-easing_of.is, ← c.eq.ensures, c.in-Ok.is)

pub returns-in-Err : goal.returns-in-Err
unfolding lax_easing_eq equality_in
returns-in-Err c = simp (← (rw c.easing_in.ensures at c.easing_of.ensures), c.in-Some.is, ← (rw c.easing_in-2.ensures at c.easing_of-2.ensures), c.in-Some-easing_of.is, ← c.eq.ensures, c.in-Err.is, c.number.ensures)
