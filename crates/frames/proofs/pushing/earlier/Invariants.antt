-- `earlier` meets its contract. The invariant: i frames are passed, and those that follow them are counted from i on. Assumes nothing.
use Prim.Native.Nat.{◌≤◌, ◌+◌}
use mathlib.Core.Path.{◌≡◌}
use lib.ListN.{length, drop}
use Rattle.frames.specs.Inner.{earlier_of}
use Rattle.frames.proofs.pushing.earlier.Given as goal

abbrev pub invariant-loop-i : goal.invariant-loop-i
invariant-loop-i l = (l.i ≤ length l.frames) × (l.i + earlier_of l.time (drop l.i l.frames) ≡ earlier_of l.time l.frames)
