-- `value_in` meets its contract, by what its callees ensure. Assumes nothing.
use mathlib.Core.Path.{◌∙◌}
use Rattle.capi.specs.Tweens.{lax_tween_value}
use Rattle.capi.proofs.tweens.value_in.Goals as goal

pub returns-in-Some : goal.returns-in-Some
unfolding lax_tween_value
returns-in-Some c = c.put_found.ensures ∙ simp (← c.tween_in.ensures, ← c.tween_of.ensures, c.in-Some.is, c.value.ensures)

pub returns-in-None : goal.returns-in-None
unfolding lax_tween_value
returns-in-None c = simp (← c.tween_in.ensures, ← c.tween_of.ensures, c.in-None.is)
