-- `refused` meets its contract, by what its callees ensure. Assumes nothing.
use Rattle.rows.specs.Words.{put_all}
use Rattle.rows.proofs.answers.refused.Goals as goal

pub returns : goal.returns
unfolding put_all
returns c = simp (c.put.ensures, c.number.ensures, c.empty.ensures)
