-- `fill_checked` meets its contract, by its outcome. Assumes nothing.
use mathlib.Core.Path.{◌≡◌, sym, ◌∙◌}
use lib.ListN.{length}
use Rattle.std.proofs.lemmas.Result.{err_from_is_err_and}
use Rattle.keyframe.specs.Inner.{fill_outcome}
use Rattle.keyframe.proofs.Refusals.{fill-fits}
use Rattle.words.specs.Lent.{word_at}
use Rattle.capi.proofs.Tracked.{stopped-values, values-not, values-is}
use Rattle.capi.proofs.tracks.fill_checked.Goals.{After-fill_outcome}
use Rattle.capi.proofs.tracks.fill_checked.Goals as goal

outcome : (c : After-fill_outcome) → c.fill_outcome.result ≡ fill_outcome (word_at c.args.w.now 512) (length c.args.times.now) (length c.args.out.now)
outcome c = rw c.count.ensures at c.fill_outcome.ensures

pub returns-in_err-track : goal.returns-in_err-track
returns-in_err-track c came = let p = err_from_is_err_and c.from_residual.result c.from_residual.ensures.1 in
    rw (p.1, p.2) (stopped-values c.args.w.now _ c.in_err-track.ensures c.args.times.now c.args.out.now came)

pub returns-in_err-fill_outcome : goal.returns-in_err-fill_outcome
returns-in_err-fill_outcome c came = let p = err_from_is_err_and c.from_residual-in_err-fill_outcome.result c.from_residual-in_err-fill_outcome.ensures.1 in
    rw (p.1, p.2) (values-not c.args.w.now (rw c.in_ok-track.ensures at c.in_ok-track.track.fine) c.args.times.now c.args.out.now came _ (sym c.in_err-fill_outcome.was ∙ outcome (goal.at.returns-in_err-fill_outcome c).After-fill_outcome))

pub fill-requires : goal.fill-requires
fill-requires c = rw c.in_ok-track.ensures (fill-fits _ _ _ (sym c.in_ok-fill_outcome.was ∙ outcome (goal.at.fill-requires c).After-fill_outcome))

pub returns : goal.returns
returns c came = rw (c.fill.ensures.output, c.fill.ensures.count, c.in_ok-track.ensures) (values-is c.args.w.now (rw c.in_ok-track.ensures at c.in_ok-track.track.fine) c.args.times.now c.args.out.now came (sym c.in_ok-fill_outcome.was ∙ outcome (goal.at.returns c).After-fill_outcome))
