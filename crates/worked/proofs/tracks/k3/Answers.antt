-- `k3` answers true, by computation. Assumes nothing.
use Rattle.std.proofs.Common.{refl}
use Rattle.worked.proofs.Computing.{tracks}
use Rattle.worked.proofs.tracks.k3.Goals as goal

pub returns : goal.returns
returns c =
    rw (c.refuses.ensures, c.moved.ensures, c.endless.ensures) (unfold tracks in refl)
