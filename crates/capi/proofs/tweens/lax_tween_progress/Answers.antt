-- `lax_tween_progress` meets its contract, by what its callees ensure. Assumes nothing.
use mathlib.Core.Path.{◌∙◌}
use Rattle.std.proofs.Common.{rules}
use Rattle.capi.specs.Tweens.{lax_tween_progress}
use Rattle.capi.proofs.Given.{given-progress}
use Rattle.capi.proofs.tweens.lax_tween_progress.Goals as goal

pub returns-in-Some : goal.returns-in-Some
unfolding lax_tween_progress
returns-in-Some c = c.put.ensures ∙ given-progress _ c.progress.result c.map.result c.map.ensures.cases (λ p x l. search rules) ∙ simp (← c.tween_in.ensures, ← c.tween_of.ensures, c.in-Some.is, c.progress.ensures)

pub returns-in-None : goal.returns-in-None
unfolding lax_tween_progress
returns-in-None c = simp (← c.tween_in.ensures, ← c.tween_of.ensures, c.in-None.is)
