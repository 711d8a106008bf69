-- `float_word` meets its contract. Assumes nothing.
use Rattle.rows.specs.Words.{word_of}
use Rattle.rows.proofs.entries.float_word.Goals as goal

pub returns-then-x : goal.returns-then-x
unfolding word_of
returns-then-x c = simp c.if-x.true

pub returns : goal.returns
unfolding word_of
returns c = simp (c.if-x.false, c.bits.ensures)
