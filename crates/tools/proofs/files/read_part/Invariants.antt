-- `read_part` stays within its buffer, whose length stays; the measure is what is left of it.
use Rattle.std.proofs.Common.{length, ◌-◌, ◌≡◌, ◌≤◌}
use Rattle.tools.proofs.files.read_part.Given as goal

abbrev pub invariant-loop-bytes : goal.invariant-loop-bytes
invariant-loop-bytes l = (length l.buffer ≡ length l.initial.buffer) × (l.bytes ≤ length l.buffer)

abbrev pub decreases-loop-bytes : goal.decreases-loop-bytes
decreases-loop-bytes l = length l.initial.buffer - l.bytes
