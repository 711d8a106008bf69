-- `sample_outcome` meets its contract. Assumes nothing.
use Rattle.std.proofs.Common.{arith, le-ltb, lt-ltb}
use Rattle.keyframe.specs.Inner.{sample_outcome}
use Rattle.keyframe.proofs.refusing.sample_outcome.Goals as goal

pub returns-then-count-eq0 : goal.returns-then-count-eq0
unfolding sample_outcome
returns-then-count-eq0 c = rw (le-ltb 0 c.args.count (omega (arith, c.if-count-eq0.true)))

pub returns : goal.returns
unfolding sample_outcome
returns c = rw (lt-ltb 0 c.args.count (omega (arith, c.if-count-eq0.false)))
