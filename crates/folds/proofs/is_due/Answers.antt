-- `is_due` meets its contract. Assumes nothing.
use mathlib.Core.Path.{refl}
use Rattle.folds.specs.Folds.{due}
use Rattle.folds.proofs.is_due.Goals as goal

pub returns : goal.returns
unfolding due
returns c = refl
