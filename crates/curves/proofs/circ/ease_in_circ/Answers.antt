-- `ease_in_circ` meets its contract. Assumes nothing.
use Rattle.std.proofs.Common.{ap}
use Rattle.math.specs.Rounded.{◌⊖◌, one_f}
use Rattle.math.proofs.Ranges.{under-root, within-at-most}
use Rattle.curves.specs.Circ.{in_circ}
use Rattle.curves.proofs.circ.ease_in_circ.Goals as goal

pub returns : goal.returns
unfolding in_circ
returns c = ap (λ r. one_f ⊖ r) c.circle.ensures

pub circle-requires : goal.circle-requires
circle-requires c = under-root c.args.t (within-at-most c.args.t c.requires)
