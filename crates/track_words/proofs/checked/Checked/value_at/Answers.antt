-- `value_at` meets its contract, by what its callees ensure. Assumes nothing.
use native.Mathlib.Omega.{arith}
use Rattle.track_words.proofs.Passed.{passed-few, passed-fine, passed-frames}
use Rattle.track_words.proofs.checked.Checked.value_at.Goals as goal

pub sample-requires : goal.sample-requires
sample-requires c = let ws = c.args.self.words.now in let p = c.args.self.fine in (rw c.count.ensures (passed-fine ws p), omega (arith, c.count.ensures, c.requires), omega (arith, c.count.ensures, passed-few ws p))

pub returns : goal.returns
returns c = rw (passed-frames c.args.self.words.now c.args.self.fine, ← c.count.ensures) c.sample.ensures
