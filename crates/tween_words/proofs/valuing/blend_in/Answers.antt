-- `blend_in` meets its contract, by what its callees ensure. Assumes nothing.
use borrow.Author.Tests.{ne_eqb}
use Rattle.tween_words.proofs.Exact.{sized}
use Rattle.tween_words.proofs.Fits.{parts}
use Rattle.tween_words.proofs.valuing.blend_in.Goals as goal

pub float_from_bits-start : goal.float_from_bits-start
float_from_bits-start c = sized _ (parts c.args.w.now c.requires).start

pub float_from_bits-end : goal.float_from_bits-end
float_from_bits-end c = sized _ (parts c.args.w.now c.requires).end

pub returns-then-w-ne0 : goal.returns-then-w-ne0
returns-then-w-ne0 c = simp (ne_eqb _ _ c.if-w-ne0.true, c.blend.ensures)

pub returns : goal.returns
returns c = simp (c.if-w-ne0.false, c.blend-2.ensures)
