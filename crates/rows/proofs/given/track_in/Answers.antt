-- `track_in` meets its contract, by what its callees ensure. Assumes nothing.
use Rattle.rows.specs.Records.{track_in}
use Rattle.rows.proofs.given.track_in.Goals as goal

pub returns : goal.returns
unfolding track_in
returns c = simp (c.word-4.ensures, c.word-3.ensures, c.loop_at.ensures, c.float_at.ensures, c.word-2.ensures, c.frames_at-frames.ensures, c.places.ensures.1, c.word.ensures)
