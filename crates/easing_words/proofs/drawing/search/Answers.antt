-- `search` meets its contract, by what its callees ensure. Assumes nothing.
use borrow.Author.Tests.{ne_eqb}
use Rattle.easing_words.specs.Drawing.{searched_of}
use Rattle.easing_words.proofs.drawing.search.Goals as goal

pub returns-then-kind-ne31 : goal.returns-then-kind-ne31
unfolding searched_of
returns-then-kind-ne31 c = simp (ne_eqb _ _ c.if-kind-ne31.true)

pub returns-then-fits : goal.returns-then-fits
unfolding searched_of
returns-then-fits c = simp (c.if-kind-ne31.false, c.cubic_bezier.ensures, ← c.of_bits-x1.ensures, ← c.of_bits-y1.ensures, ← c.of_bits-x2.ensures, ← c.of_bits-y2.ensures, ← c.fits.ensures, c.if-fits.true)

pub returns : goal.returns
unfolding searched_of
returns c = simp (c.if-kind-ne31.false, ← c.of_bits-x1.ensures, ← c.of_bits-y1.ensures, ← c.of_bits-x2.ensures, ← c.of_bits-y2.ensures, ← c.fits.ensures, c.if-fits.false)
