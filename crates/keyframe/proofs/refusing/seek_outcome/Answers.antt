-- `seek_outcome` meets its contract, by what its callee ensures. Assumes nothing.
use Rattle.std.proofs.Common.{sym, ◌∙◌}
use Rattle.keyframe.specs.Inner.{seek_outcome}
use Rattle.keyframe.proofs.refusing.seek_outcome.Goals as goal

pub returns-then-is_nan : goal.returns-then-is_nan
unfolding seek_outcome
returns-then-is_nan c = rw (sym c.is_nan.ensures ∙ c.if-is_nan.true)

pub returns : goal.returns
unfolding seek_outcome
returns c = rw (sym c.is_nan.ensures ∙ c.if-is_nan.false)
