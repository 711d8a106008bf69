-- `fill_outcome` meets its contract, refusal by refusal. Assumes nothing.
use Rattle.std.proofs.lemmas.Result.{err_from_is_err_and}
use Rattle.std.proofs.Common.{sym, ◌∙◌, lt-ltb, le-leb, ap, Err}
use borrow.Author.Tests.{lt-leb}
use Rattle.keyframe.specs.Inner.{fill_outcome}
use Rattle.keyframe.proofs.Refusals.{fill_none, sample-some}
use Rattle.keyframe.proofs.refusing.fill_outcome.Goals as goal

pub returns-in_err-sample_outcome : goal.returns-in_err-sample_outcome
unfolding fill_outcome
returns-in_err-sample_outcome c = let p = err_from_is_err_and c.from_residual.result c.from_residual.ensures.1 in p.1 ∙ ap Err p.2 ∙ fill_none c.args.count c.args.times c.args.room _ (sym c.in_err-sample_outcome.was ∙ c.sample_outcome.ensures)

pub returns-then-room-times : goal.returns-then-room-times
unfolding fill_outcome
returns-then-room-times c = rw (lt-ltb 0 _ (sample-some _ (sym c.in_ok-sample_outcome.was ∙ c.sample_outcome.ensures)), lt-leb c.args.times c.args.room c.if-room-times.true)

pub returns : goal.returns
unfolding fill_outcome
returns c = rw (lt-ltb 0 _ (sample-some _ (sym c.in_ok-sample_outcome.was ∙ c.sample_outcome.ensures)), le-leb c.args.times c.args.room c.if-room-times.false)
