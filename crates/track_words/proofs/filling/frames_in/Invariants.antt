-- `frames_in` meets its contract. The invariant: the first i places hold their frames. Assumes nothing.
use Prim.Native.Nat.{◌≤◌}
use mathlib.Core.Path.{◌≡◌}
use mathlib.Core.List.{◌++◌}
use lib.ListN.{length, drop}
use Rattle.math.specs.Lists.{firsts}
use Rattle.track_words.specs.Reading.{frame_in}
use Rattle.track_words.proofs.filling.frames_in.Given as goal

abbrev pub invariant-loop-i : goal.invariant-loop-i
invariant-loop-i l = (l.i ≤ l.n) × (length l.frames ≡ 64) × (length l.initial.frames ≡ 64) × (l.frames ≡ firsts (frame_in l.w) l.i ++ drop l.i l.initial.frames)
