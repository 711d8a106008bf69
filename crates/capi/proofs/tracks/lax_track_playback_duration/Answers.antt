-- `lax_track_playback_duration` meets its contract, by the two ways of the check. Assumes nothing.
use Rattle.capi.proofs.Tracked.{both_place, stopped-playback, playback-is}
use Rattle.capi.proofs.tracks.lax_track_playback_duration.Goals as goal

pub returns-in-Ok : goal.returns-in-Ok
returns-in-Ok c = both_place _ _ _ (rw (c.playback_duration.ensures, c.in-Ok.ensures) (playback-is c.args.w.now (rw c.in-Ok.ensures at c.in-Ok.track.fine) c.args.out.now))

pub returns-in-Err : goal.returns-in-Err
returns-in-Err c = both_place _ _ _ (rw c.number.ensures (stopped-playback c.args.w.now _ c.in-Err.ensures c.args.out.now))
