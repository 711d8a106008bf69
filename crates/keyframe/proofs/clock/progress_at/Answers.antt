-- `progress_at` meets its contract, by where playback ends. Assumes nothing.
use Rattle.keyframe.proofs.clock.progress_at.Goals as goal

pub returns-in-Some : goal.returns-in-Some
returns-in-Some c = rw (← c.end_of.ensures, c.in-Some.is, c.ratio.ensures)

pub returns-in-None : goal.returns-in-None
returns-in-None c = rw (← c.end_of.ensures, c.in-None.is, c.ratio-in-None.ensures, c.active_at.ensures)
