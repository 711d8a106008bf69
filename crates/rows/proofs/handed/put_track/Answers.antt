-- `put_track` meets its contract, by what its callees ensure. Assumes nothing.
use Rattle.rows.specs.Words.{put_all}
use Rattle.rows.proofs.handed.put_track.Goals as goal

pub returns : goal.returns
unfolding put_all
returns c = simp (c.put_frames.ensures, c.places.ensures.1, c.put-head.ensures, c.put-4.ensures, c.put-3.ensures, c.put-2.ensures, c.put_float.ensures, c.put.ensures, c.track_words-w.ensures)
