-- `frames_of` meets its contract. The invariant: the first i places hold their frames. Assumes nothing.
use Prim.Native.Nat.{◌≤◌}
use mathlib.Core.Path.{◌≡◌}
use lib.ListN.{length}
use Rattle.frames.proofs.Fills.{fill_to}
use Rattle.words.specs.Tracks.{frame_from}
use Rattle.words.proofs.tracks.frames_of.Given as goal

abbrev pub invariant-loop-i : goal.invariant-loop-i
invariant-loop-i l = (l.i ≤ l.n) × (length l.frames ≡ 64) × (l.frames ≡ fill_to frame_from l.words l.initial.frames l.i)
