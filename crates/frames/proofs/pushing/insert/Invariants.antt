-- `insert` meets its contract. The invariant: the frames from j on have moved one place up. Assumes nothing.
use Prim.Native.Nat.{◌≤◌}
use mathlib.Core.Path.{◌≡◌}
use Rattle.frames.proofs.Shifts.{opened}
use Rattle.frames.proofs.pushing.insert.Given as goal

abbrev pub invariant-loop-j : goal.invariant-loop-j
invariant-loop-j l = (l.p ≤ l.j) × (l.j ≤ l.n) × (l.g ≡ opened l.initial.g l.n l.j)
