-- `is_below` meets its contract: the larger of x and -x is below just what the size is below. Assumes nothing.
use Rattle.math.proofs.Form.{size-under}
use Rattle.math.proofs.range.is_below.Goals as goal

pub returns : goal.returns
returns c = rw c.larger.ensures (size-under _ _)
