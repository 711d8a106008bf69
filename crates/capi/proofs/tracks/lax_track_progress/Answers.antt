-- `lax_track_progress` meets its contract, by the two ways of the check. Assumes nothing.
use Rattle.capi.proofs.Tracked.{both_place, stopped-progress, progress-is}
use Rattle.capi.proofs.tracks.lax_track_progress.Goals as goal

pub returns-in-Ok : goal.returns-in-Ok
returns-in-Ok c = both_place _ _ _ (rw (c.progress.ensures, c.in-Ok.ensures) (progress-is c.args.w.now (rw c.in-Ok.ensures at c.in-Ok.track.fine) c.args.out.now))

pub returns-in-Err : goal.returns-in-Err
returns-in-Err c = both_place _ _ _ (rw c.number.ensures (stopped-progress c.args.w.now _ c.in-Err.ensures c.args.out.now))
