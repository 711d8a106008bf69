-- `track_of` meets its contract, by what its callees ensure. Assumes nothing.
use Rattle.words.specs.Tracks.{track_from}
use Rattle.words.proofs.tracks.track_of.Goals as goal

pub returns : goal.returns
unfolding track_from
returns c = simp (c.frames_of-frames.ensures, c.mode_of.ensures)
