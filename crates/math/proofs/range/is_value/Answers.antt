-- `is_value` meets its contract. Assumes nothing.
use Rattle.std.proofs.Common.{◌∙◌}
use lib.Ieee.{of_bits, neg}
use Rattle.math.proofs.Form.{size-between}
use Rattle.math.proofs.range.is_value.Goals as goal

pub returns : goal.returns
unfolding of_bits neg
returns c = c.is_between.ensures ∙ size-between _ _ _
