-- `lax_track_value` meets its contract, by the two ways of the check. Assumes nothing.
use mathlib.Core.Path.{◌∙◌}
use Rattle.capi.proofs.Tracked.{both_words, stopped-now, now-is}
use Rattle.capi.proofs.tracks.lax_track_value.Goals as goal

pub returns-in-Ok : goal.returns-in-Ok
returns-in-Ok c = both_words _ _ _ (c.put_found.ensures ∙ rw (c.sample.ensures, c.active_time.ensures, c.in-Ok.ensures) (now-is c.args.w.now (rw c.in-Ok.ensures at c.in-Ok.track.fine) c.args.out.now))

pub returns-in-Err : goal.returns-in-Err
returns-in-Err c = both_words _ _ _ (rw c.number.ensures (stopped-now c.args.w.now _ c.in-Err.ensures c.args.out.now))
