-- `put_run` meets its contract, by what its callees ensure. Assumes nothing.
use borrow.Author.Tests.{ne_eqb}
use Rattle.capi.specs.Tweens.{ran_words, ran_out}
use Rattle.capi.proofs.tweens.put_run.Goals as goal

pub returns-then-number-eq0 : goal.returns-then-number-eq0
unfolding ran_words ran_out
returns-then-number-eq0 c = record { number = c.outcome_number-number.ensures; words = simp c.if-run-eq0.true; counts = simp (c.if-run-eq0.true, ← c.outcome_number-number.ensures, c.if-number-eq0.true) }

pub returns-else-number-eq0 : goal.returns-else-number-eq0
unfolding ran_words ran_out
returns-else-number-eq0 c = record { number = c.outcome_number-number.ensures; words = simp c.if-run-eq0.true; counts = simp (c.if-run-eq0.true, ← c.outcome_number-number.ensures, ne_eqb _ _ c.if-number-eq0.false) }

pub returns : goal.returns
unfolding ran_words ran_out
returns c = record { number = c.outcome_number-number.ensures; words = simp (ne_eqb _ _ c.if-run-eq0.false, c.store_tween.ensures); counts = simp (ne_eqb _ _ c.if-run-eq0.false) }
