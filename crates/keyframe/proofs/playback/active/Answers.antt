-- `active` meets its contract, by what its callees ensure. Assumes nothing.
use Rattle.keyframe.specs.Playback.{active_of}
use Rattle.keyframe.proofs.playback.active.Goals as goal

pub returns : goal.returns
unfolding active_of
returns c = rw (← c.last_time.ensures) c.active_at.ensures
