-- `sample_cubic_derivative` meets its contract: it is the definition, step by step. Assumes nothing.
use mathlib.Core.Path.{refl}
use Rattle.bezier.specs.Curve.{sample_cubic_derivative_of}
use Rattle.bezier.proofs.curve.sample_cubic_derivative.Goals as goal

pub returns : goal.returns
unfolding sample_cubic_derivative_of
returns c = refl
