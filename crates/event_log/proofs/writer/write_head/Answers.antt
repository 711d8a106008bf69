-- `write_head` meets its contract. Assumes nothing.
use Rattle.std.proofs.Common.{ℕ, List, ◌++◌, drop, refl, ap}
use Rattle.event_log.proofs.Refusals.{no-head, a-head}
use Rattle.event_log.proofs.writer.write_head.Goals as goal

pub returns-then-buffer-lt5 : goal.returns-then-buffer-lt5
returns-then-buffer-lt5 c = record { answer = rw (no-head c.args.buffer.now c.if-buffer-lt5.true) refl; bytes = rw (no-head c.args.buffer.now c.if-buffer-lt5.true) refl }

pub returns : goal.returns
returns c = record { answer = rw (a-head c.args.buffer.now c.if-buffer-lt5.false) refl; bytes = rw (a-head c.args.buffer.now c.if-buffer-lt5.false) (ap (λ (l : List ℕ). l ++ drop 5 c.args.buffer.now) c.copy_from_slice.ensures.after) }
