-- `earlier` meets its contract. The invariant: i frames are passed, and those that follow them are counted from i on. Assumes nothing.
use Prim.Native.Nat.{◌≤◌, ◌+◌}
use mathlib.Core.Path.{◌≡◌}
use lib.ListN.{take, drop}
use Rattle.frames.specs.Inner.{earlier_of}
use Rattle.track_words.specs.Reading.{frames_of}
use Rattle.track_words.proofs.pushing.earlier.Given as goal

abbrev pub invariant-loop-i : goal.invariant-loop-i
invariant-loop-i l = (l.i ≤ l.n) × (l.i + earlier_of l.time (drop l.i (take l.n (frames_of l.w))) ≡ earlier_of l.time (take l.n (frames_of l.w)))
