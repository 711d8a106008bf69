-- `step_on` meets its contract, by what its callees ensure. Assumes nothing.
use mathlib.Core.Path.{subst, ◌∙◌, ap}
use Rattle.tween_words.specs.Stepping.{SlidesTo}
use Rattle.tween_words.proofs.stepping.step_on.Goals as goal
use Rattle.std.specs.Prelude.{Some}

pub returns-in-To : goal.returns-in-To
returns-in-To c = rw c.ran.ensures (subst (SlidesTo _ _) (c.in_ok-slid.was ∙ ap Some c.in-To.is) c.slide.ensures)

pub returns-in-Waits : goal.returns-in-Waits
returns-in-Waits c = rw c.ran-in-Waits.ensures (subst (SlidesTo _ _) (c.in_ok-slid.was ∙ ap Some c.in-Waits.is) c.slide.ensures)

pub returns-in-Stays : goal.returns-in-Stays
returns-in-Stays c = rw c.ran-in-Stays.ensures (subst (SlidesTo _ _) (c.in_ok-slid.was ∙ ap Some c.in-Stays.is) c.slide.ensures)

pub returns-in-Folded : goal.returns-in-Folded
returns-in-Folded c = rw c.ran-in-Folded.ensures (subst (SlidesTo _ _) (c.in_ok-slid.was ∙ ap Some c.in-Folded.is) c.slide.ensures)

pub returns-in-Ended : goal.returns-in-Ended
returns-in-Ended c = rw c.ran-in-Ended.ensures (subst (SlidesTo _ _) (c.in_ok-slid.was ∙ ap Some c.in-Ended.is) c.slide.ensures)
