-- `replay_on` meets its contract, refusal by refusal. Assumes nothing.
use Rattle.std.proofs.Common.{refl}
use Rattle.reader.proofs.Refusals.{ragged, short, reads}
use Rattle.reader.proofs.read.replay_on.Goals as goal

pub returns-then-records-ne0 : goal.returns-then-records-ne0
returns-then-records-ne0 c = record { answer = rw (ragged _ _ _ c.if-records-ne0.true) (c.stopped.ensures); list = rw (ragged _ _ _ c.if-records-ne0.true) refl }

pub returns-then-gaps-records : goal.returns-then-gaps-records
returns-then-gaps-records c = record { answer = rw (short _ _ _ c.if-records-ne0.false c.if-gaps-records.true) (c.stopped-then-gaps-records.ensures); list = rw (short _ _ _ c.if-records-ne0.false c.if-gaps-records.true) refl }

pub returns : goal.returns
returns c = rw (reads _ _ _ c.if-records-ne0.false c.if-gaps-records.false) c.read_all.ensures
