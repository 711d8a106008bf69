-- `ease_out_circ` meets its contract. Assumes nothing.
use Rattle.math.proofs.Ranges.{under-root, less_one}
use Rattle.curves.specs.Circ.{out_circ}
use Rattle.curves.proofs.circ.ease_out_circ.Goals as goal

pub returns : goal.returns
unfolding out_circ
returns c = c.circle.ensures

pub circle-requires : goal.circle-requires
circle-requires c = under-root _ (less_one c.args.t c.requires)
