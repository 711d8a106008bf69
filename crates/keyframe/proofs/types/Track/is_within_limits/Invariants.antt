-- `is_within_limits` meets its contract. The invariant: the frames from i on, after the last time, are fine where all are. Assumes nothing.
use Rattle.std.proofs.Common.{◌≡◌, ◌≤◌, take, drop}
use Rattle.frames.specs.Limits.{frames_after, frames_within}
use Rattle.keyframe.proofs.types.Track.is_within_limits.Given as goal

abbrev pub invariant-loop-i : goal.invariant-loop-i
invariant-loop-i l = (l.i ≤ l.n) × (frames_after l.last (drop l.i (take l.n l.self.frames)) ≡ frames_within (take l.n l.self.frames))
