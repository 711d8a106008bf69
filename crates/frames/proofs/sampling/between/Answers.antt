-- `between` meets its contract, by what its callees ensure. Assumes nothing.
use Rattle.frames.specs.Sampling.{between_of}
use Rattle.frames.proofs.sampling.between.Goals as goal

pub returns : goal.returns
unfolding between_of
returns c = simp (c.with_value.ensures, c.blend.ensures, c.eased-found.ensures, c.along-p.ensures)
