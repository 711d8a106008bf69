-- `push` meets its contract, by what its callees ensure. Assumes nothing.
use Rattle.keyframe.proofs.types.Track.push.Goals as goal

pub returns : goal.returns
returns c = rw (c.push_frame.ensures, c.new.ensures)
