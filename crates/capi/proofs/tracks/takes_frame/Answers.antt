-- `takes_frame` meets its contract, by its outcome. Assumes nothing.
use mathlib.Core.Path.{sym, ◌∙◌}
use Rattle.std.proofs.lemmas.Result.{err_from_is_err_and}
use Rattle.capi.proofs.Tracked.{push-stopped, push-not}
use Rattle.capi.proofs.tracks.takes_frame.Goals as goal

pub returns-in_err-track : goal.returns-in_err-track
returns-in_err-track c = let p = err_from_is_err_and c.from_residual.result c.from_residual.ensures.1 in
    rw (p.1, p.2) (λ row known at. push-stopped c.args.w.now row c.args.k known _ c.in_err-track.ensures)

pub returns-in_err-push_outcome : goal.returns-in_err-push_outcome
returns-in_err-push_outcome c = let p = err_from_is_err_and c.from_residual-in_err-push_outcome.result c.from_residual-in_err-push_outcome.ensures.1 in
    rw (p.1, p.2) (λ row known at. push-not c.args.w.now row c.args.k known (rw c.in_ok-track.ensures at c.in_ok-track.track.fine) c.args.time at _ (sym c.in_err-push_outcome.was ∙ rw c.in_ok-track.ensures at c.push_outcome.ensures))
