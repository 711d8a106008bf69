-- `over_passes` meets its contract. Assumes nothing.
use Rattle.keyframe.proofs.limits.over_passes.Goals as goal

pub returns : goal.returns
returns c = rw (c.nearest_u32_to_f32.ensures, c.passes.ensures)
