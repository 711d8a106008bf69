-- `tick` meets its contract, by what its callees ensure. Assumes nothing.
use Rattle.words.specs.Lent.{track_in}
use Rattle.words.specs.Tracks.{track_from}
use Rattle.track_words.proofs.checked.Checked.tick.Goals as goal

pub returns : goal.returns
unfolding track_from track_in
returns c = rw (c.tick.ensures, c.looping.ensures, c.duration.ensures, c.count.ensures, c.new-clock.ensures, c.complete.ensures, c.word_at.ensures, c.elapsed.ensures)
