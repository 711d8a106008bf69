-- `at` meets its contract: what `pick` answers is the sample. Assumes nothing.
use mathlib.Core.Path.{◌≡◌}
use native.Mathlib.Omega.{arith}
use lib.ListN.{length}
use Rattle.frames.proofs.Picks.{picked-by}
use Rattle.frames.proofs.filling.at.Goals as goal

pub returns : goal.returns
returns c = let t = c.args.frames.now in let l : length t ≡ 64 = c.told-frames in
    picked-by t c.args.n (omega arith) (omega arith) c.requires.0 _ _ _ _ _ _
    c.max_zero.ensures
    c.cut-t.ensures
    c.requires.3
    c.interval-low.ensures.1
    c.pick.ensures
