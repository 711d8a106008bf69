-- `fill` meets its contract, by what its callees ensure. Assumes nothing.
use mathlib.Core.Path.{◌≡◌}
use native.Mathlib.Omega.{arith}
use lib.ListN.{take}
use Rattle.keyframe.specs.Limits.{frames_in}
use Rattle.track_words.specs.Reading.{track_of}
use Rattle.track_words.proofs.Passed.{passed-few, passed-fine, passed-frames}
use Rattle.track_words.proofs.checked.Checked.fill.Goals as goal
use Rattle.track_words.proofs.checked.Checked.fill.Goals.{After-frames_in}

-- the frames that are read are the track's
read : (c : After-frames_in) → take c.count-n.result c.frames_in.result ≡ frames_in (track_of c.args.self.words.now)
read c =
    rw (passed-frames c.args.self.words.now c.args.self.fine, ← c.count-n.ensures) c.frames_in.ensures

pub frames_in-requires : goal.frames_in-requires
frames_in-requires c = omega (arith, c.count-n.ensures, passed-few c.args.self.words.now c.args.self.fine)

pub fill-requires : goal.fill-requires
fill-requires c = let ws = c.args.self.words.now in let n = c.count-n.ensures in (rw (read (goal.at.fill-requires c).After-frames_in, passed-frames ws c.args.self.fine) (passed-fine ws c.args.self.fine), omega (arith, n, c.requires.0), omega (arith, n, passed-few ws c.args.self.fine), c.requires.1)

pub returns : goal.returns
returns c = rw (read (goal.at.returns c).After-frames_in) at c.fill.ensures
