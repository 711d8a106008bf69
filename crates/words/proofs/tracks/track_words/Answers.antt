-- `track_words` meets its contract, by what its callees ensure. Assumes nothing.
use Rattle.words.specs.Tracks.{track_words}
use Rattle.words.proofs.tracks.track_words.Goals as goal

pub returns : goal.returns
unfolding track_words
returns c = simp (c.frames_words-frames.ensures, c.places.ensures.1, c.from.ensures, c.flag_word.ensures)
