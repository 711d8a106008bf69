-- `easing_fits` meets its contract: a plain kind fits, and each arm is told its answer. Assumes nothing.
use mathlib.Core.Path.{sym}
use Rattle.words.proofs.Fitting.{plain_fits, known-fits, unknown-fits}
use Rattle.words.proofs.sampling.easing_fits.Goals as goal

pub returns-then-is_plain : goal.returns-then-is_plain
returns-then-is_plain c = sym (plain_fits _ (rw (← c.is_plain.ensures) c.if-is_plain.true))

pub returns-in-Some : goal.returns-in-Some
returns-in-Some c = rw c.fits_record.ensures (known-fits _ _ (rw (← c.easing_of.ensures) c.in-Some.is))

pub returns-in-None : goal.returns-in-None
returns-in-None c = unknown-fits _ (rw (← c.easing_of.ensures) c.in-None.is)
