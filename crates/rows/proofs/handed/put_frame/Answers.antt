-- `put_frame` meets its contract, by what its callees ensure. Assumes nothing.
use Rattle.rows.specs.Words.{put_all}
use Rattle.rows.proofs.handed.put_frame.Goals as goal

pub returns : goal.returns
unfolding put_all
returns c = simp (c.put_easing.ensures, c.put_float-2.ensures, c.put_float.ensures)
