-- `lax_track_is_complete` meets its contract, by the two ways of the check. Assumes nothing.
use mathlib.Core.Path.{◌∙◌}
use Rattle.capi.proofs.Tracked.{both_place, stopped-complete, complete-is}
use Rattle.capi.proofs.tracks.lax_track_is_complete.Goals as goal

pub returns-in-Ok : goal.returns-in-Ok
returns-in-Ok c = both_place _ _ _ (c.put_flag.ensures ∙ rw (c.is_done.ensures, c.in-Ok.ensures) (complete-is c.args.w.now (rw c.in-Ok.ensures at c.in-Ok.track.fine) c.args.out.now))

pub returns-in-Err : goal.returns-in-Err
returns-in-Err c = both_place _ _ _ (rw c.number.ensures (stopped-complete c.args.w.now _ c.in-Err.ensures c.args.out.now))
