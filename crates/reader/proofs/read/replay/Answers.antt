-- `replay` meets its contract, refusal by refusal. Assumes nothing.
use Rattle.std.proofs.Common.{refl}
use borrow.Author.Rules.{part_to_end}
use Rattle.math.proofs.Choice.{fails, passes}
use Rattle.reader.proofs.Refusals.{broken, unmarked, unknown, reads-log, head-whole}
use mathlib.Core.Path.{ap}
use mathlib.Core.Bool.{not}
use Rattle.reader.proofs.read.replay.Goals as goal

pub returns-then-not-within : goal.returns-then-not-within
returns-then-not-within c = record { answer = rw (broken _ _ _ (fails _ _ c.within.ensures (ap not c.if-not-within.true))) (c.stopped.ensures); list = rw (broken _ _ _ (fails _ _ c.within.ensures (ap not c.if-not-within.true))) refl }

pub returns-then-not-has_mark : goal.returns-then-not-has_mark
returns-then-not-has_mark c = record { answer = rw (unmarked _ _ _ (passes _ _ c.within.ensures (ap not c.if-not-within.false)) (fails _ _ c.has_mark.ensures (ap not c.if-not-has_mark.true))) (c.stopped-then-not-has_mark.ensures); list = rw (unmarked _ _ _ (passes _ _ c.within.ensures (ap not c.if-not-within.false)) (fails _ _ c.has_mark.ensures (ap not c.if-not-has_mark.true))) refl }

pub returns-then-not-has_version : goal.returns-then-not-has_version
returns-then-not-has_version c = record { answer = rw (unknown _ _ _ (passes _ _ c.within.ensures (ap not c.if-not-within.false)) (passes _ _ c.has_mark.ensures (ap not c.if-not-has_mark.false)) (fails _ _ c.has_version.ensures (ap not c.if-not-has_version.true))) (c.stopped-then-not-has_version.ensures); list = rw (unknown _ _ _ (passes _ _ c.within.ensures (ap not c.if-not-within.false)) (passes _ _ c.has_mark.ensures (ap not c.if-not-has_mark.false)) (fails _ _ c.has_version.ensures (ap not c.if-not-has_version.true))) refl }

pub slice_bounds-replay_on-count : goal.slice_bounds-replay_on-count
slice_bounds-replay_on-count c = head-whole c.args.log.now (passes _ _ c.has_version.ensures (ap not c.if-not-has_version.false))

pub slice_bounds-replay_on-start : goal.slice_bounds-replay_on-start
slice_bounds-replay_on-start c = head-whole c.args.log.now (passes _ _ c.has_version.ensures (ap not c.if-not-has_version.false))

pub returns : goal.returns
returns c = rw (reads-log _ c.args.log.now _ (passes _ _ c.within.ensures (ap not c.if-not-within.false)) (passes _ _ c.has_mark.ensures (ap not c.if-not-has_mark.false)) (passes _ _ c.has_version.ensures (ap not c.if-not-has_version.false))) (rw (part_to_end c.args.log.now 5) at c.replay_on.ensures)
