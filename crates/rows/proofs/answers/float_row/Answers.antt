-- `float_row` meets its contract, by what its callees ensure. Assumes nothing.
use Rattle.rows.specs.Words.{put_all}
use Rattle.rows.proofs.answers.float_row.Goals as goal

pub returns : goal.returns
unfolding put_all
returns c = simp (c.put_float.ensures, c.accepted.ensures)
