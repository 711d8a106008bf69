-- `frame_at` meets its contract, by what its callees ensure. Assumes nothing.
use Rattle.words.specs.Lent.{frame_at}
use Rattle.rows.proofs.given.frame_at.Goals as goal

pub returns : goal.returns
unfolding frame_at
returns c = simp (c.new.ensures, c.easing_at.ensures, c.float_at-2.ensures, c.float_at.ensures)
