-- `raise` meets its contract. The invariant: the words from j on have moved eight places up. Assumes nothing.
use Prim.Native.Nat.{◌≤◌, ◌*◌, ◌-◌}
use mathlib.Core.Path.{◌≡◌}
use Rattle.track_words.specs.Inner.{raised_by}
use Rattle.track_words.proofs.pushing.raise.Given as goal

abbrev pub invariant-loop-j : goal.invariant-loop-j
invariant-loop-j l = (l.low ≤ l.j) × (l.j ≤ 8 * l.n) × (l.w ≡ raised_by l.initial.w (8 * l.n) (8 * l.n - l.j))
