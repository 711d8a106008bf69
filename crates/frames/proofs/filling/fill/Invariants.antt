-- `fill` meets its contract. The invariant: the first i places of out hold the samples at their times, and what did not settle among them and among those that are left makes the whole count. Assumes nothing.
use Prim.Native.Nat.{ℕ, ◌≤◌, ◌<◌, ◌+◌}
use mathlib.Core.Path.{◌≡◌}
use mathlib.Core.Bool.{Bool, not}
use mathlib.Core.List.{List}
use lib.ListN.{length, take, drop}
use lib.Ieee.{Float}
use Rattle.frames.specs.Sampling.{sample_of, count_of}
use Rattle.frames.specs.declared.frame.Keyframe.{Keyframe}
use Rattle.frames.proofs.Fills.{fill_to}
use Rattle.frames.proofs.filling.fill.Given as goal

abbrev pub at : List Keyframe → ℕ → Float → Float
at frames n secs = (sample_of (take n frames) secs).value

abbrev pub off : List Keyframe → ℕ → Float → Bool
off frames n secs = not (sample_of (take n frames) secs).settled

abbrev pub invariant-loop-i : goal.invariant-loop-i
invariant-loop-i l =
    (l.i ≤ length l.times) × (length l.out ≡ length l.initial.out) × (l.out ≡ fill_to (at l.frames l.n) l.times l.initial.out l.i)
    × (l.unsettled < l.i + 1) × (l.unsettled + count_of (off l.frames l.n) (drop l.i (take (length l.times) l.times)) ≡ count_of (off l.frames l.n) l.times)
