-- `run_steps` meets its contract, refusal by refusal. Assumes nothing.
use mathlib.Core.Path.{refl}
use Rattle.math.proofs.Choice.{fails, passes}
use Rattle.steps.proofs.Courses.{broken, few-values, few-folds, runs}
use mathlib.Core.Path.{ap}
use mathlib.Core.Bool.{not}
use Rattle.steps.proofs.run.run_steps.Goals as goal

pub returns-then-not-within : goal.returns-then-not-within
returns-then-not-within c = record { answer = rw (broken _ _ _ _ (fails _ _ c.within.ensures (ap not c.if-not-within.true))) (c.answer.ensures); value = rw (broken _ _ _ _ (fails _ _ c.within.ensures (ap not c.if-not-within.true))) refl; fold = rw (broken _ _ _ _ (fails _ _ c.within.ensures (ap not c.if-not-within.true))) refl }

pub returns-then-values-steps : goal.returns-then-values-steps
returns-then-values-steps c = record { answer = rw (few-values _ _ _ _ (passes _ _ c.within.ensures (ap not c.if-not-within.false)) c.if-values-steps.true) (c.answer-then-values-steps.ensures); value = rw (few-values _ _ _ _ (passes _ _ c.within.ensures (ap not c.if-not-within.false)) c.if-values-steps.true) refl; fold = rw (few-values _ _ _ _ (passes _ _ c.within.ensures (ap not c.if-not-within.false)) c.if-values-steps.true) refl }

pub returns-then-folds-steps : goal.returns-then-folds-steps
returns-then-folds-steps c = record { answer = rw (few-folds _ _ _ _ (passes _ _ c.within.ensures (ap not c.if-not-within.false)) c.if-values-steps.false c.if-folds-steps.true) (c.answer-then-folds-steps.ensures); value = rw (few-folds _ _ _ _ (passes _ _ c.within.ensures (ap not c.if-not-within.false)) c.if-values-steps.false c.if-folds-steps.true) refl; fold = rw (few-folds _ _ _ _ (passes _ _ c.within.ensures (ap not c.if-not-within.false)) c.if-values-steps.false c.if-folds-steps.true) refl }

pub run_on-requires : goal.run_on-requires
run_on-requires c = (passes _ _ c.within.ensures (ap not c.if-not-within.false), c.if-values-steps.false, c.if-folds-steps.false)

pub returns : goal.returns
returns c = rw (runs _ _ _ _ (passes _ _ c.within.ensures (ap not c.if-not-within.false)) c.if-values-steps.false c.if-folds-steps.false) c.run_on.ensures
