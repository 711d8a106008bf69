-- `holds` meets its contract, by what its callees ensure. Assumes nothing.
use borrow.Author.Tests.{ne_eqb}
use Rattle.easing_words.specs.Drawing.{holds_of}
use Rattle.easing_words.proofs.drawing.holds.Goals as goal

pub returns-then-is_plain : goal.returns-then-is_plain
unfolding holds_of
returns-then-is_plain c = simp (← c.is_plain.ensures, c.if-is_plain.true)

pub returns-then-kind-ne31 : goal.returns-then-kind-ne31
unfolding holds_of
returns-then-kind-ne31 c = simp (← c.is_plain.ensures, c.if-is_plain.false, ne_eqb _ _ c.if-kind-ne31.true)

pub returns : goal.returns
unfolding holds_of
returns c = simp (← c.is_plain.ensures, c.if-is_plain.false, c.if-kind-ne31.false, c.fits.ensures, c.of_bits.ensures, c.of_bits-2.ensures, c.of_bits-3.ensures, c.of_bits-4.ensures)
