-- `equal` meets its contract, by computation. Assumes nothing.
use mathlib.Core.Path.{refl}
use Rattle.easing.specs.Params.{equal_of}
use Rattle.easing.proofs.params.equal.Goals as goal

pub returns : goal.returns
unfolding equal_of
returns c = refl
