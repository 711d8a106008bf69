-- `along` meets its contract, by where playback ends. Assumes nothing.
use Rattle.keyframe.proofs.playback.along.Goals as goal

pub returns-in-Some : goal.returns-in-Some
returns-in-Some c = rw (c.in-Some.is, c.ratio.ensures)

pub returns-in-None : goal.returns-in-None
returns-in-None c = rw (c.in-None.is, c.ratio-in-None.ensures, c.last_time.ensures, c.active.ensures)
