-- `is_known` meets its contract. The invariant: the kinds from place i on decide. Assumes nothing.
use Prim.Native.Nat.{◌≤◌}
use mathlib.Core.Path.{◌≡◌}
use lib.ListN.{take, drop}
use Rattle.words.specs.Tracks.{known_kinds}
use Rattle.words.proofs.tracks.is_known.Given as goal

abbrev pub invariant-loop-i : goal.invariant-loop-i
invariant-loop-i l = (l.i ≤ l.n) × (known_kinds (take l.n l.w.frames) ≡ known_kinds (drop l.i (take l.n l.w.frames)))
