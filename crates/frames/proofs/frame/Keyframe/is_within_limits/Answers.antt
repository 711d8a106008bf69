-- `is_within_limits` meets its contract, by what its callees ensure. Assumes nothing.
use Rattle.frames.specs.Limits.{frame_within}
use Rattle.frames.proofs.frame.Keyframe.is_within_limits.Goals as goal

pub returns : goal.returns
unfolding frame_within
returns c = simp (c.fits_record.ensures, c.is_value.ensures, c.is_time.ensures)
