-- `playback_duration` meets its contract, by what its callees ensure. Assumes nothing.
use Rattle.words.specs.Lent.{track_in}
use Rattle.words.specs.Tracks.{track_from}
use Rattle.track_words.proofs.checked.Checked.playback_duration.Goals as goal

pub returns : goal.returns
unfolding track_from track_in
returns c = rw (c.playback_at.ensures, c.duration.ensures, c.looping.ensures)
