-- `floats_at` meets its contract. The invariant: the first i places hold their floats. Assumes nothing.
use Prim.Native.Nat.{◌+◌}
use mathlib.Core.Path.{◌≡◌}
use mathlib.Core.List.{◌++◌}
use lib.ListN.{length, drop}
use Rattle.math.specs.Lists.{firsts}
use Rattle.words.specs.Lent.{float_at}
use Rattle.rows.proofs.lists.floats_at.Given as goal

abbrev pub invariant-loop-i : goal.invariant-loop-i
invariant-loop-i l = (length l.list ≡ 128) × (l.list ≡ firsts (λ k. float_at l.words (l.from + k)) l.i ++ drop l.i l.initial.list)
