-- `lax_track_values_at` meets its contract, by what was filled. Assumes nothing.
use Rattle.capi.proofs.Tracked.{parts}
use Rattle.capi.proofs.tracks.lax_track_values_at.Goals as goal

pub returns-in-Ok : goal.returns-in-Ok
returns-in-Ok c = parts _ _ _ _ (rw c.in-Ok.is at (c.fill_checked.ensures c.args.filled.now))

pub returns-in-Err : goal.returns-in-Err
returns-in-Err c = parts _ _ _ _ (rw c.number.ensures (rw c.in-Err.is at (c.fill_checked.ensures c.args.filled.now)))
