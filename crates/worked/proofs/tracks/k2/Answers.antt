-- `k2` answers true, by computation. Assumes nothing.
use Rattle.std.proofs.Common.{refl}
use Rattle.worked.proofs.Computing.{tracks}
use Rattle.worked.proofs.tracks.k2.Goals as goal

pub returns : goal.returns
returns c = rw (c.moved-track.ensures, c.ramp.ensures) (unfold tracks in refl)
