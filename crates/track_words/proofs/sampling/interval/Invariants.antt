-- `interval` meets its contract. The invariant: what is counted and what is left to count make the whole count. Assumes nothing.
use Prim.Native.Nat.{◌+◌, ◌<◌, ◌≤◌}
use mathlib.Core.Path.{◌≡◌}
use lib.ListN.{take, drop}
use lib.Ieee.{Float, le}
use Rattle.frames.specs.Sampling.{count_of}
use Rattle.frames.specs.Inner.{counted, times_of}
use Rattle.track_words.specs.Reading.{frames_of}
use Rattle.track_words.proofs.sampling.interval.Given as goal

abbrev pub invariant-loop-i : goal.invariant-loop-i
invariant-loop-i l = (l.count < l.i) × (l.i ≤ 63) × (l.count + count_of (λ (x : Float). le x l.t) (drop l.i (take l.last (times_of (frames_of l.w)))) ≡ counted (times_of (frames_of l.w)) l.t l.last)
