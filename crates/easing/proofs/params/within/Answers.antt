-- `within` meets its contract, by what the helpers ensure. Assumes nothing.
use Rattle.easing.specs.Params.{within_of}
use Rattle.easing.proofs.params.within.Goals as goal

pub returns : goal.returns
unfolding within_of
returns c = simp (c.is_finite.ensures, c.size.ensures, c.is_finite-2.ensures, c.size-2.ensures)
