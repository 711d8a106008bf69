-- `number_at` meets its contract: what is no NaN has none of a NaN's patterns. Assumes nothing.
use lib.Ieee.Bits.{nan_bits_is}
use Rattle.track_words.proofs.sampling.number_at.Goals as goal

pub float_from_bits-result : goal.float_from_bits-result
float_from_bits-result c = rw (c.word_at.ensures, nan_bits_is, c.requires.1) tt
