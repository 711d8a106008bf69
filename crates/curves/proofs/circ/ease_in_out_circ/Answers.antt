-- `ease_in_out_circ` meets its contract: each arm is what the definition picks at the test that led there. Assumes nothing.
use Rattle.math.proofs.Ranges.{under-root, doubled, turned}
use Rattle.curves.specs.Circ.{in_out_circ}
use Rattle.curves.proofs.circ.ease_in_out_circ.Goals as goal

pub returns-then-t : goal.returns-then-t
unfolding in_out_circ
returns-then-t c = rw (c.if-t.true, c.circle.ensures)

pub returns-else-t : goal.returns-else-t
unfolding in_out_circ
returns-else-t c = rw (c.if-t.false, c.circle-else-t.ensures)

pub circle-requires : goal.circle-requires
circle-requires c = under-root _ (doubled c.args.t c.requires c.if-t.true)

pub circle-requires-else-t : goal.circle-requires-else-t
circle-requires-else-t c = under-root _ (turned c.args.t c.requires c.if-t.false)
