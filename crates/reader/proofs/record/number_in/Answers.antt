-- `number_in` meets its contract: the library reads two bytes, the lowest first. Assumes nothing.
use native.Mathlib.Omega.{arith}
use Rattle.math.proofs.Bytes.{low_reads}
use Rattle.reader.proofs.record.number_in.Goals as goal

pub returns : goal.returns
returns c = omega (arith, c.from_le_bytes.ensures, low_reads 2 0 c.args.bytes)
