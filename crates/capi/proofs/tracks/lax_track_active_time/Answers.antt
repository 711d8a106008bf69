-- `lax_track_active_time` meets its contract, by the two ways of the check. Assumes nothing.
use Rattle.capi.proofs.Tracked.{both_place, stopped-active, active-is}
use Rattle.capi.proofs.tracks.lax_track_active_time.Goals as goal

pub returns-in-Ok : goal.returns-in-Ok
returns-in-Ok c = both_place _ _ _ (rw (c.active_time.ensures, c.in-Ok.ensures) (active-is c.args.w.now (rw c.in-Ok.ensures at c.in-Ok.track.fine) c.args.out.now))

pub returns-in-Err : goal.returns-in-Err
returns-in-Err c = both_place _ _ _ (rw c.number.ensures (stopped-active c.args.w.now _ c.in-Err.ensures c.args.out.now))
