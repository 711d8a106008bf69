-- `lax_tween_update` meets its contract, by what its callees ensure. Assumes nothing.
use mathlib.Core.Path.{subst}
use Rattle.tween_words.specs.Stepping.{StepsTo}
use Rattle.capi.proofs.Quick.{stepped, unsure}
use Rattle.capi.proofs.tweens.lax_tween_update.Goals as goal

pub returns-in-Some : goal.returns-in-Some
returns-in-Some c = rw c.flag_word.ensures (stepped c.args.w.now c.args.out.now c.args.step _ _ _ (subst (StepsTo _ _ _) c.in-Some.is c.step_on.ensures))

pub returns-in-None : goal.returns-in-None
returns-in-None c = unsure c.args.w.now c.args.out.now _ c.args.step _ (subst (StepsTo _ _ _) c.in-None.is c.step_on.ensures) c.update_in.ensures
