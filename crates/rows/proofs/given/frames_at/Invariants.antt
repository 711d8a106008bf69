-- `frames_at` meets its contract. The invariant: the first i places hold their frames. Assumes nothing.
use Prim.Native.Nat.{◌+◌, ◌*◌}
use mathlib.Core.Path.{◌≡◌}
use mathlib.Core.List.{◌++◌}
use lib.ListN.{length, drop}
use Rattle.math.specs.Lists.{firsts}
use Rattle.words.specs.Lent.{frame_at}
use Rattle.rows.proofs.given.frames_at.Given as goal

abbrev pub invariant-loop-i : goal.invariant-loop-i
invariant-loop-i l = (length l.frames ≡ 64) × (l.frames ≡ firsts (λ k. frame_at l.words (l.from + 8 * k)) l.i ++ drop l.i l.initial.frames)
