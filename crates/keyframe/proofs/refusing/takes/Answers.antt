-- `takes` meets its contract, by what its callees ensure. Assumes nothing.
use Rattle.keyframe.proofs.refusing.takes.Goals as goal

pub returns : goal.returns
returns c = rw (c.mode_fits.ensures, c.is_value.ensures, c.is_time.ensures, c.later-base.ensures)
