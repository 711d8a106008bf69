-- `take` meets its contract. Assumes nothing.
use Rattle.std.proofs.Common.{Err, ap, ◌∙◌}
use Rattle.std.proofs.lemmas.Result.{err_from_is_err_and}
use mathlib.Core.Path.{refl}
use Rattle.steps.specs.Course.{step_of}
use Rattle.steps.proofs.Taking.{stays, passed-limit}
use Rattle.steps.proofs.take.take.Goals as goal

pub returns-then-tween-gt16777216 : goal.returns-then-tween-gt16777216
unfolding step_of
returns-then-tween-gt16777216 c = passed-limit _ _ _ _ _ _ c.step_on.ensures c.in_ok-updated.was c.if-tween-gt16777216.true

pub value_by-requires : goal.value_by-requires
unfolding step_of
value_by-requires c = (stays _ _ _ _ _ _ c.step_on.ensures c.in_ok-updated.was c.if-tween-gt16777216.false, refl)

pub returns : goal.returns
unfolding step_of
returns c = simp (← c.step_on.ensures, c.in_ok-updated.was, c.value_by.ensures)

pub returns-in_err-updated : goal.returns-in_err-updated
unfolding step_of
returns-in_err-updated c =
    let p = err_from_is_err_and c.from_residual.result c.from_residual.ensures.1 in
    p.1 ∙ ap Err p.2 ∙ (simp (← c.step_on.ensures, c.in_err-updated.was))
