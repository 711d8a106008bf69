-- `lax_track_update` meets its contract, by what the clock made of the step. Assumes nothing.
use Rattle.capi.proofs.Tracked.{three}
use Rattle.capi.proofs.tracks.lax_track_update.Goals as goal

pub returns-in-Ok : goal.returns-in-Ok
returns-in-Ok c = three _ _ _ _ (rw (c.store_clock.ensures, c.flag_word.ensures) (rw c.in-Ok.is at (c.ticked.ensures c.args.out.now)))

pub returns-in-Err : goal.returns-in-Err
returns-in-Err c = three _ _ _ _ (rw c.number.ensures (rw c.in-Err.is at (c.ticked.ensures c.args.out.now)))
