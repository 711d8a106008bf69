-- `sought` meets its contract, by its outcome. Assumes nothing.
use mathlib.Core.Path.{sym, ◌∙◌}
use Rattle.std.proofs.lemmas.Result.{err_from_is_err_and}
use Rattle.capi.proofs.Tracked.{stopped-seek, seek-not, seek_is}
use Rattle.capi.proofs.tracks.sought.Goals as goal

pub returns-in_err-track : goal.returns-in_err-track
returns-in_err-track c = let p = err_from_is_err_and c.from_residual.result c.from_residual.ensures.1 in
    rw (p.1, p.2) (stopped-seek c.args.w.now _ c.in_err-track.ensures c.args.p)

pub returns-in_err-seek_outcome : goal.returns-in_err-seek_outcome
returns-in_err-seek_outcome c = let p = err_from_is_err_and c.from_residual-in_err-seek_outcome.result c.from_residual-in_err-seek_outcome.ensures.1 in
    rw (p.1, p.2) (seek-not c.args.w.now (rw c.in_ok-track.ensures at c.in_ok-track.track.fine) c.args.p _ (sym c.in_err-seek_outcome.was ∙ c.seek_outcome.ensures))

pub returns : goal.returns
returns c = rw (c.seek.ensures, c.clamp01.ensures, c.in_ok-track.ensures) (seek_is c.args.w.now (rw c.in_ok-track.ensures at c.in_ok-track.track.fine) c.args.p (sym c.in_ok-seek_outcome.was ∙ c.seek_outcome.ensures))
