-- `put_row` meets its contract. The invariant: j words of the row are in their places. Assumes nothing.
use Prim.Native.Nat.{◌≤◌}
use mathlib.Core.Path.{◌≡◌}
use Rattle.track_words.specs.Inner.{row_into}
use Rattle.track_words.proofs.pushing.put_row.Given as goal

abbrev pub invariant-loop-j : goal.invariant-loop-j
invariant-loop-j l = (l.j ≤ 8) × (l.w ≡ row_into l.initial.w l.at l.row l.j)
