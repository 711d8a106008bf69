-- `duration` meets its contract, by what its callees ensure. Assumes nothing.
use native.Mathlib.Omega.{arith}
use Rattle.track_words.proofs.Passed.{passed-few, passed-frames}
use Rattle.track_words.proofs.checked.Checked.duration.Goals as goal

pub last_time-requires : goal.last_time-requires
last_time-requires c = omega (arith, c.count.ensures, passed-few c.args.self.words.now c.args.self.fine)

pub returns : goal.returns
returns c = rw (passed-frames c.args.self.words.now c.args.self.fine, ← c.count.ensures) c.last_time.ensures
