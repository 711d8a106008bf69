-- `looping_outcome` meets its contract, by what its callee ensures. Assumes nothing.
use Rattle.math.proofs.Choice.{fails, passes}
use Rattle.keyframe.specs.Inner.{looping_outcome}
use mathlib.Core.Path.{ap}
use mathlib.Core.Bool.{not}
use Rattle.keyframe.proofs.refusing.looping_outcome.Goals as goal

pub returns-then-not-mode_fits : goal.returns-then-not-mode_fits
unfolding looping_outcome
returns-then-not-mode_fits c = rw (fails _ _ c.mode_fits.ensures (ap not c.if-not-mode_fits.true))

pub returns : goal.returns
unfolding looping_outcome
returns c = rw (passes _ _ c.mode_fits.ensures (ap not c.if-not-mode_fits.false))
