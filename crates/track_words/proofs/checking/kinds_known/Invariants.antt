-- `kinds_known` meets its contract. The invariant: the kinds from place i on decide. Assumes nothing.
use Prim.Native.Nat.{◌≤◌}
use mathlib.Core.Path.{◌≡◌}
use lib.ListN.{take, drop}
use Rattle.words.specs.Lent.{track_in}
use Rattle.words.specs.Tracks.{known_kinds}
use Rattle.track_words.proofs.checking.kinds_known.Given as goal

abbrev pub invariant-loop-i : goal.invariant-loop-i
invariant-loop-i l = (l.i ≤ l.n) × (known_kinds (drop l.i (take l.n (track_in l.w).frames)) ≡ known_kinds (take l.n (track_in l.w).frames))
