-- `record_at` meets its contract. Assumes nothing.
use Rattle.math.proofs.Parts.{reads-part}
use Rattle.reader.proofs.read.record_at.Goals as goal

pub returns : goal.returns
returns c = reads-part 0 8 _ _ c.requires
