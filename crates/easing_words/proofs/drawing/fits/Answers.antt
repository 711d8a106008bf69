-- `fits` meets its contract, by what its callees ensure. Assumes nothing.
use mathlib.Core.Bool.{and-true}
use Rattle.easing.specs.Params.{within_of}
use Rattle.easing_words.proofs.drawing.fits.Goals as goal

pub returns : goal.returns
unfolding within_of
returns c = simp (c.size-2.ensures, c.is_finite-2.ensures, c.size.ensures, c.is_finite.ensures, and-true)
