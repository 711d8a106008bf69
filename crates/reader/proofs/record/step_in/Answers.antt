-- `step_in` meets its contract: a pattern below infinity's is none of NaN's. Assumes nothing.
use Rattle.std.proofs.Common.{le-ltb, lt-ltb}
use Rattle.reader.proofs.Patterns.{no_nan}
use Rattle.reader.proofs.record.step_in.Goals as goal

pub float_from_bits-result : goal.float_from_bits-result
float_from_bits-result c = no_nan _ c.if-bits-lt2139095040.true

pub returns-then-bits-lt2139095040 : goal.returns-then-bits-lt2139095040
returns-then-bits-lt2139095040 c = rw (← c.bits_in-bits.ensures) (simp (lt-ltb _ _ c.if-bits-lt2139095040.true))

pub returns : goal.returns
returns c = rw (← c.bits_in-bits.ensures) (simp (le-ltb _ _ c.if-bits-lt2139095040.false))
