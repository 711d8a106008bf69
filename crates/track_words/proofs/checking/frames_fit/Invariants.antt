-- `frames_fit` meets its contract. The invariant: the frames from i on, after the time whose pattern is 1 below `above`, are sound where all are. Assumes nothing.
use Prim.Native.Nat.{◌≤◌}
use mathlib.Core.Path.{◌≡◌}
use Rattle.track_words.specs.Inner.{sound_of}
use Rattle.track_words.proofs.Sound.{sound_from}
use Rattle.track_words.proofs.checking.frames_fit.Given as goal

abbrev pub invariant-loop-i : goal.invariant-loop-i
invariant-loop-i l = (l.i ≤ l.n) × (l.above ≤ 0x4b80_0001) × (sound_from l.w l.n l.i l.above ≡ sound_of l.w l.n)
