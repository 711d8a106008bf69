-- `update` meets its contract, by what `glide` and `step_on` ensure. Assumes nothing.
use Rattle.std.proofs.Common.{sym, subst, rules}
use Rattle.math.proofs.Choice.{fails, passes}
use Rattle.tween.specs.Update.{update_of}
use Rattle.tween.specs.Inner.{Glides}
use Rattle.tween.proofs.Glides.{goes_to}
use mathlib.Core.Path.{ap}
use mathlib.Core.Bool.{not}
use Rattle.tween.proofs.record.Tween.update.Goals as goal

pub returns-then-not-within : goal.returns-then-not-within
unfolding update_of
returns-then-not-within c = simp (fails _ _ c.within.ensures (ap not c.if-not-within.true), c.new.ensures)

pub glide-requires : goal.glide-requires
unfolding update_of
glide-requires c = passes _ _ c.within.ensures (ap not c.if-not-within.false)

pub step_on-requires : goal.step_on-requires
unfolding update_of
step_on-requires c = passes _ _ c.within.ensures (ap not c.if-not-within.false)

pub returns-in-Some : goal.returns-in-Some
unfolding update_of
returns-in-Some c = rw c.set_in.ensures (sym (goes_to _ _ _ (subst (Glides _ _) c.in-Some.is c.glide.ensures)))

pub returns-in-None : goal.returns-in-None
unfolding update_of
returns-in-None c = search rules
