-- `read_frame` meets its contract, by the test that it makes. Assumes nothing.
use Rattle.words.specs.Tracks.{frame_read}
use Rattle.words.proofs.tracks.read_frame.Goals as goal

pub returns-then-is_kind : goal.returns-then-is_kind
unfolding frame_read
returns-then-is_kind c = simp (← c.is_kind.ensures, c.if-is_kind.true, c.frame_of.ensures)

pub returns : goal.returns
unfolding frame_read
returns c = simp (← c.is_kind.ensures, c.if-is_kind.false)
