-- `new` meets its contract, by what `blank` ensures. Assumes nothing.
use lib.Ieee.{of_bits}
use Rattle.keyframe.specs.Pushing.{new_track}
use Rattle.keyframe.proofs.types.Track.new.Goals as goal

pub returns : goal.returns
unfolding new_track of_bits
returns c = simp c.blank-frames.ensures
