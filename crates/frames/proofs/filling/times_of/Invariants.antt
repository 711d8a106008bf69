-- `times_of` meets its contract. The invariant: the first i places hold their frames' times. Assumes nothing.
use Prim.Native.Nat.{◌≤◌}
use mathlib.Core.Path.{◌≡◌}
use Rattle.frames.specs.declared.frame.Keyframe.{Keyframe}
use Rattle.frames.proofs.Fills.{fill_to}
use Rattle.frames.proofs.filling.times_of.Given as goal

abbrev pub invariant-loop-i : goal.invariant-loop-i
invariant-loop-i l = (l.i ≤ l.n) × (l.times ≡ fill_to (λ (k : Keyframe). k.time) l.frames l.initial.times l.i)
