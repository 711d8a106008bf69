-- `playback_at` meets its contract, by what its callees ensure. Assumes nothing.
use Rattle.keyframe.proofs.clock.playback_at.Goals as goal

pub returns : goal.returns
returns c = rw (c.playback.ensures, c.end_of.ensures)
