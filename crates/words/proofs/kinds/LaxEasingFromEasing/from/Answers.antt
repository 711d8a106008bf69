-- `LaxEasing::from` meets its contract, by what its callees ensure. Assumes nothing.
use Rattle.words.specs.Kinds.{easing_words}
use Rattle.words.proofs.kinds.LaxEasingFromEasing.from.Goals as goal

pub returns : goal.returns
unfolding easing_words
returns c = simp (c.kind_number.ensures, c.params_of-p.ensures)
