-- `frame_in` meets its contract, by what its callees ensure. Assumes nothing.
use Rattle.words.specs.Lent.{frame_at}
use Rattle.words.proofs.lent.frame_in.Goals as goal

pub returns : goal.returns
unfolding frame_at
returns c = simp (c.six.ensures, c.of_bits-2.ensures, c.of_bits.ensures)
