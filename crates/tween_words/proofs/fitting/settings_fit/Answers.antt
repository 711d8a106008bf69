-- `settings_fit` meets its contract, by what its callees ensure. Assumes nothing.
use Rattle.tween_words.specs.Fitting.{settings_fit}
use Rattle.tween_words.proofs.fitting.settings_fit.Goals as goal

pub returns : goal.returns
unfolding settings_fit
returns c = simp (c.holds.ensures, c.is_value.ensures, c.is_value-2.ensures)
