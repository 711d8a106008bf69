-- `lax_track_push` meets its contract, by what its callees ensure. Assumes nothing.
use Rattle.capi.proofs.tracks.lax_track_push.Goals as goal

pub returns : goal.returns
returns c = rw (c.bits-2.ensures, c.bits.ensures) at c.push_row.ensures
