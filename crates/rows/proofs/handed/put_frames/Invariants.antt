-- `put_frames` meets its contract. The invariant: the frames so far are written. Assumes nothing.
use mathlib.Core.Path.{◌≡◌}
use lib.ListN.{take}
use Rattle.rows.specs.Words.{put_all}
use Rattle.rows.specs.Written.{frames_list}
use Rattle.rows.proofs.handed.put_frames.Given as goal

abbrev pub invariant-loop-k : goal.invariant-loop-k
invariant-loop-k l = l.p ≡ put_all l.initial.p (frames_list (take l.k-index l.k-items))
