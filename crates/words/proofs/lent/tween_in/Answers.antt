-- `tween_in` meets its contract, by what its callees ensure. Assumes nothing.
use Rattle.words.specs.Lent.{tween_in}
use Rattle.words.proofs.lent.tween_in.Goals as goal

pub returns : goal.returns
unfolding tween_in
returns c = simp (c.of_bits-7.ensures, c.of_bits-6.ensures, c.of_bits-5.ensures, c.of_bits-4.ensures, c.six.ensures, c.of_bits-3.ensures, c.of_bits-2.ensures, c.of_bits.ensures)
