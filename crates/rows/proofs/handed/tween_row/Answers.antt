-- `tween_row` meets its contract, by what its callees ensure. Assumes nothing.
use Rattle.rows.specs.Words.{put_all}
use Rattle.rows.proofs.handed.tween_row.Goals as goal

pub returns : goal.returns
unfolding put_all
returns c = simp (c.put_tween.ensures, c.empty.ensures)
