-- `lax_tween_seek` meets its contract, by what its callees ensure. Assumes nothing.
use mathlib.Core.Path.{◌∙◌}
use Rattle.capi.specs.Tweens.{lax_tween_seek}
use Rattle.capi.proofs.tweens.lax_tween_seek.Goals as goal

pub returns-in-Some : goal.returns-in-Some
unfolding lax_tween_seek
returns-in-Some c = c.put_tween.ensures ∙ simp (← c.tween_in.ensures, ← c.tween_of.ensures, c.in-Some.is, c.seek.ensures)

pub returns-in-None : goal.returns-in-None
unfolding lax_tween_seek
returns-in-None c = simp (← c.tween_in.ensures, ← c.tween_of.ensures, c.in-None.is)
