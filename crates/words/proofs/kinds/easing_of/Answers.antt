-- `easing_of` meets its contract, by what its callees ensure. Assumes nothing.
use Rattle.words.specs.Kinds.{easing_from}
use Rattle.words.proofs.kinds.easing_of.Goals as goal

pub returns-then-is_kind : goal.returns-then-is_kind
unfolding easing_from
returns-then-is_kind c = simp (← c.is_kind.ensures, c.if-is_kind.true, c.of_number.ensures, c.new-p.ensures)

pub returns : goal.returns
unfolding easing_from
returns c = simp (← c.is_kind.ensures, c.if-is_kind.false)
