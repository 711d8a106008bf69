-- `fits` meets its contract, by what its callees ensure. Assumes nothing.
use Rattle.tween_words.proofs.fitting.fits.Goals as goal

pub returns : goal.returns
returns c = simp (c.settings_fit.ensures, c.clock_fits.ensures)
