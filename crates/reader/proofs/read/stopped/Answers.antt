-- `stopped` meets its contract, by what `answer` ensures. Assumes nothing.
use Rattle.reader.proofs.read.stopped.Goals as goal

pub returns : goal.returns
returns c = c.answer.ensures
