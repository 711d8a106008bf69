-- `takes_mode` meets its contract, by its outcome. Assumes nothing.
use mathlib.Core.Path.{sym, ◌∙◌}
use Rattle.std.proofs.lemmas.Result.{err_from_is_err_and}
use Rattle.capi.proofs.Tracked.{stopped-looping, looping-not, looping-is}
use Rattle.capi.proofs.tracks.takes_mode.Goals as goal

pub returns-in_err-track : goal.returns-in_err-track
returns-in_err-track c m known = let p = err_from_is_err_and c.from_residual.result c.from_residual.ensures.1 in
    rw (p.1, p.2) (stopped-looping c.args.w.now _ c.in_err-track.ensures m _ known)

pub returns-in_err-looping_outcome : goal.returns-in_err-looping_outcome
returns-in_err-looping_outcome c m known = let p = err_from_is_err_and c.from_residual-in_err-looping_outcome.result c.from_residual-in_err-looping_outcome.ensures.1 in
    rw (p.1, p.2) (looping-not c.args.w.now (rw c.in_ok-track.ensures at c.in_ok-track.track.fine) m _ known _ (sym c.in_err-looping_outcome.was ∙ rw (c.duration.ensures, c.in_ok-track.ensures) at c.looping_outcome.ensures))

pub returns : goal.returns
returns c m known = looping-is c.args.w.now (rw c.in_ok-track.ensures at c.in_ok-track.track.fine) m _ known (sym c.in_ok-looping_outcome.was ∙ rw (c.duration.ensures, c.in_ok-track.ensures) at c.looping_outcome.ensures)
