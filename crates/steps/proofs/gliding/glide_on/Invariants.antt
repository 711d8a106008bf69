-- `glide_on` meets its contract. The invariant: the run has gone on to step i. Assumes nothing.
use mathlib.Core.Path.{◌≡◌}
use Rattle.steps.proofs.Onward.{Onward}
use Rattle.steps.proofs.gliding.glide_on.Given as goal

abbrev pub invariant-loop-i : goal.invariant-loop-i
invariant-loop-i l = Onward l.steps l.initial.values l.initial.folds l.initial.t l.initial.unsettled l.from l.values l.folds l.t l.unsettled l.i × (l.t.easing ≡ l.easing)
