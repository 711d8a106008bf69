-- `k1` answers true, by computation. Assumes nothing.
use Rattle.std.proofs.Common.{refl}
use Rattle.worked.proofs.Computing.{tracks}
use Rattle.worked.proofs.tracks.k1.Goals as goal

pub returns : goal.returns
returns c =
    rw (c.gives.ensures, c.gives-2.ensures, c.gives-3.ensures, c.gives-4.ensures, c.infinity.ensures, c.pushed-second.ensures, c.ramp-first.ensures) (unfold tracks in refl)
