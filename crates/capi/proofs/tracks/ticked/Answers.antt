-- `ticked` meets its contract, by what the clock makes of the step. Assumes nothing.
use mathlib.Core.Path.{sym, ◌∙◌}
use Rattle.std.proofs.lemmas.Result.{err_from_is_err_and}
use Rattle.capi.proofs.Tracked.{stopped-update, update-is, update-not}
use Rattle.capi.proofs.tracks.ticked.Goals as goal

pub returns-in_err-track : goal.returns-in_err-track
returns-in_err-track c out = let p = err_from_is_err_and c.from_residual.result c.from_residual.ensures.1 in
    rw (p.1, p.2) (stopped-update c.args.w.now _ c.in_err-track.ensures c.args.step out)

pub returns-in_err-tick : goal.returns-in_err-tick
returns-in_err-tick c out = let p = err_from_is_err_and c.from_residual-in_err-tick.result c.from_residual-in_err-tick.ensures.1 in
    rw (p.1, p.2) (update-not c.args.w.now (rw c.in_ok-track.ensures at c.in_ok-track.track.fine) c.args.step out _ (sym c.in_err-tick.was ∙ rw c.in_ok-track.ensures at c.tick.ensures))

pub returns : goal.returns
returns c out = update-is c.args.w.now (rw c.in_ok-track.ensures at c.in_ok-track.track.fine) c.args.step out _ _ (sym c.in_ok-tick.was ∙ rw c.in_ok-track.ensures at c.tick.ensures)
