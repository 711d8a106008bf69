-- `store_clock` meets its contract, by what its callees ensure. Assumes nothing.
use Rattle.words.specs.Lent.{clock_into}
use Rattle.track_words.proofs.playing.store_clock.Goals as goal

pub returns : goal.returns
unfolding clock_into
returns c = rw (c.flag_word.ensures, c.bits.ensures)
