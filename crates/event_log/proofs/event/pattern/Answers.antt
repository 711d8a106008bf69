-- `pattern` meets its contract. Assumes nothing.
use Rattle.event_log.proofs.Steps.{number, above, not-above}
use Rattle.event_log.proofs.event.pattern.Goals as goal

pub returns : goal.returns
returns c = not-above _ c.if-x.false
