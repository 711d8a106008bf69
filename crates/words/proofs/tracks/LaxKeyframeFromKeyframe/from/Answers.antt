-- `LaxKeyframe::from` meets its contract, by what its callees ensure. Assumes nothing.
use Rattle.words.specs.Tracks.{frame_words}
use Rattle.words.proofs.tracks.LaxKeyframeFromKeyframe.from.Goals as goal

pub returns : goal.returns
unfolding frame_words
returns c = simp (c.new.ensures, c.from.ensures)
