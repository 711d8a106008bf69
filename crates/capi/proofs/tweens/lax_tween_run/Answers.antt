-- `lax_tween_run` meets its contract, by what its callees ensure. Assumes nothing.
use mathlib.Core.Path.{refl, sym, ◌∙◌}
use Rattle.capi.specs.Tweens.{lax_tween_run}
use Rattle.capi.proofs.Runs.{ran-as}
use Rattle.capi.proofs.tweens.lax_tween_run.Goals as goal

pub returns-in-Some : goal.returns-in-Some
unfolding lax_tween_run
returns-in-Some c = rw (sym (rw c.tween_in.ensures at c.tween_of.ensures) ∙ c.in-Some.is) (ran-as _ _ _ _ _ _ _ _ c.run_steps.ensures.answer c.put_run.ensures.number c.put_run.ensures.words c.put_run.ensures.counts c.run_steps.ensures.value c.run_steps.ensures.fold)

pub returns-in-None : goal.returns-in-None
unfolding lax_tween_run
returns-in-None c = rw (sym (rw c.tween_in.ensures at c.tween_of.ensures) ∙ c.in-None.is) refl
