-- `push_outcome` meets its contract, by what its callees ensure. Assumes nothing.
use Rattle.words.specs.Lent.{track_in}
use Rattle.words.specs.Tracks.{track_from}
use Rattle.track_words.proofs.checked.Checked.push_outcome.Goals as goal

pub returns : goal.returns
unfolding track_from track_in
returns c = rw (c.push_outcome.ensures, c.duration.ensures, c.looping.ensures)
