-- `lax_track_seek_to` meets its contract, by where it was sought. Assumes nothing.
use Rattle.capi.proofs.Tracked.{both_words}
use Rattle.capi.proofs.tracks.lax_track_seek_to.Goals as goal

pub returns-in-Ok : goal.returns-in-Ok
returns-in-Ok c = both_words _ _ _ (rw c.store_clock.ensures c.in-Ok.ensures)

pub returns-in-Err : goal.returns-in-Err
returns-in-Err c = both_words _ _ _ (rw c.number.ensures c.in-Err.ensures)
