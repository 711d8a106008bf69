-- `is_above` meets its contract: the larger of x and -x is above just what the size is above. Assumes nothing.
use Rattle.math.proofs.Form.{size-over}
use Rattle.math.proofs.range.is_above.Goals as goal

pub returns : goal.returns
returns c = rw c.larger.ensures (size-over _ _)
