-- `frame_of` meets its contract: each arm is told its answer. Assumes nothing.
use Rattle.words.specs.Tracks.{frame_from}
use Rattle.words.proofs.tracks.frame_of.Goals as goal

pub returns-in-Some : goal.returns-in-Some
unfolding frame_from
returns-in-Some c = simp (c.new.ensures, ← c.easing_of.ensures, c.in-Some.is)

pub returns-in-None : goal.returns-in-None
unfolding frame_from
returns-in-None c = simp (c.new-in-None.ensures, ← c.easing_of.ensures, c.in-None.is)
