-- `slide` meets its contract, by its tests and what its callees ensure. Assumes nothing.
use Rattle.std.proofs.Common.{sym, refl, ◌∙◌, rules}
use lib.Ieee.{of_bits}
use Rattle.math.proofs.Choice.{fails, passes}
use Rattle.folds.specs.Folds.{folds_of}
use Rattle.tween.specs.Update.{folded, advanced}
use Rattle.tween.proofs.Glides.{one-fold}
use mathlib.Core.Path.{ap}
use mathlib.Core.Bool.{not}
use Rattle.tween.proofs.update.slide.Goals as goal

pub returns-then-t : goal.returns-then-t
unfolding advanced folded folds_of of_bits
returns-then-t c = search rules

pub returns-then-not-is_due : goal.returns-then-not-is_due
unfolding advanced folded folds_of of_bits
returns-then-not-is_due c = (simp (c.if-t.false, fails _ _ c.is_due.ensures (ap not c.if-not-is_due.true)), refl, c.requires)

pub returns-then-once : goal.returns-then-once
unfolding advanced folded folds_of of_bits
returns-then-once c = search rules

pub returns-then-is_due : goal.returns-then-is_due
unfolding advanced folded folds_of of_bits
returns-then-is_due c = search rules

pub returns-then-once-gt16777216 : goal.returns-then-once-gt16777216
unfolding advanced folded folds_of of_bits
returns-then-once-gt16777216 c = search rules

pub returns : goal.returns
unfolding advanced folded folds_of of_bits
returns c = (one-fold _ _ _ _ c.if-t.false (passes _ _ c.is_due.ensures (ap not c.if-not-is_due.false)) c.fold_once-once.ensures (sym c.is_due-2.ensures ∙ c.if-is_due.false), c.if-once.false, c.if-once-gt16777216.false)
