-- `read_all` meets its contract. The invariant: the reading has reached record i, and where the tween is sure it is within its limits. The measure is the records that are left. Assumes nothing.
use Rattle.std.proofs.Common.{◌≡◌, ◌-◌, ◌/◌, true, length}
use Rattle.tween.specs.Limits.{within_of}
use Rattle.reader.proofs.Readings.{Reached}
use Rattle.reader.proofs.read.read_all.Given as goal

abbrev pub invariant-loop-i : goal.invariant-loop-i
invariant-loop-i l =
    Reached l.records l.initial.gaps (record { tween = l.initial.t; last = l.initial.last; missing = l.initial.missing; folds = l.initial.folds }) l.gaps (record { tween = l.t; last = l.last; missing = l.missing; folds = l.folds }) l.i
    × (l.sure ≡ true → within_of l.t ≡ true)

abbrev pub decreases-loop-i : goal.decreases-loop-i
decreases-loop-i l = length l.records / 8 - l.i
