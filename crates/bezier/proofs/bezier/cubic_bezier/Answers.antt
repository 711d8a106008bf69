-- `cubic_bezier` meets its contract: each way out is the definition at what the test and the callees said. Assumes nothing.
use Rattle.bezier.specs.Bezier.{solution_of, cubic_bezier}
use Rattle.bezier.proofs.bezier.cubic_bezier.Goals as goal

pub returns-then-t : goal.returns-then-t
unfolding cubic_bezier solution_of
returns-then-t c = rw c.if-t.true c.plain.ensures

pub returns : goal.returns
unfolding cubic_bezier solution_of
returns c = rw (
  c.if-t.false,
  ← c.clamp01.ensures,
  ← c.clamp01-2.ensures,
  ← c.solve-solved.ensures,
  ← c.sample_cubic.ensures,
) c.found.ensures
