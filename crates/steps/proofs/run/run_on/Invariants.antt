-- `run_on` meets its contract. The invariant: the run has reached step i. The measure is the steps that are left. Assumes nothing.
use Prim.Native.Nat.{◌-◌}
use lib.ListN.{length}
use Rattle.steps.specs.Inner.{Reached}
use Rattle.steps.proofs.run.run_on.Given as goal

abbrev pub invariant-loop-i : goal.invariant-loop-i
invariant-loop-i l = Reached l.steps l.initial.values l.initial.folds l.initial.t l.values l.folds l.t l.unsettled l.i

abbrev pub decreases-loop-i : goal.decreases-loop-i
decreases-loop-i l = length l.steps - l.i
