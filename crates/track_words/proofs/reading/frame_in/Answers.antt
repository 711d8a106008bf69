-- `frame_in` meets its contract, by what its callees ensure. Assumes nothing.
use Rattle.words.specs.Lent.{frame_at}
use Rattle.track_words.specs.Reading.{frame_in}
use Rattle.track_words.proofs.reading.frame_in.Goals as goal

pub returns : goal.returns
unfolding frame_in frame_at
returns c = rw (c.frame_of.ensures, c.new.ensures, c.float_at-2.ensures, c.float_at.ensures, c.easing_at-e.ensures)
