-- `store_tween` meets its contract, by what its callees ensure. Assumes nothing.
use Rattle.words.specs.Lent.{tween_into}
use Rattle.words.proofs.lent.store_tween.Goals as goal

pub returns : goal.returns
unfolding tween_into
returns c = simp (c.flag_word.ensures, c.state_word.ensures, c.bits-4.ensures, c.bits-3.ensures, c.bits-2.ensures, c.bits.ensures)
