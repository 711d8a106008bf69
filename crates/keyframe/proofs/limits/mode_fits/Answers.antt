-- `mode_fits` meets its contract, by where playback ends. Assumes nothing.
use Rattle.std.proofs.Common.{sym, ◌∙◌}
use lib.Ieee.{of_bits}
use Rattle.keyframe.proofs.Records.{ends, goes_on}
use Rattle.keyframe.proofs.limits.mode_fits.Goals as goal

pub returns-in-Some : goal.returns-in-Some
unfolding of_bits
returns-in-Some c = ends c.args.looping c.args.base _ (sym c.in-Some.is ∙ c.end_of.ensures) c.is_within_limits-fits.result c.is_within_limits-fits.ensures

pub returns-in-None : goal.returns-in-None
unfolding of_bits
returns-in-None c = goes_on c.args.looping c.args.base (sym c.in-None.is ∙ c.end_of.ensures) c.is_within_limits-fits.result c.is_within_limits-fits.ensures
