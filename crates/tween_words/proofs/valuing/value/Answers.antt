-- `value` meets its contract, by what its tests say. Assumes nothing.
use native.Mathlib.Omega.{arith}
use mathlib.Core.Path.{sym, subst⁻¹, ◌∙◌}
use Rattle.math.specs.Range.{Within}
use Rattle.math.proofs.Choice.{passes}
use Rattle.math.proofs.Ranges.{clamped}
use Rattle.words.specs.Lent.{easing_at}
use Rattle.easing_words.proofs.Applied.{plain-applies, bezier-applies}
use Rattle.tween_words.proofs.Exact.{low, sized}
use Rattle.tween_words.proofs.Fits.{parts}
use Rattle.tween_words.proofs.ValueLaws.{valued, valued-end}
use mathlib.Core.Path.{ap}
use mathlib.Core.Bool.{not}
use Rattle.tween_words.proofs.valuing.value.Goals as goal

pub float_from_bits-duration : goal.float_from_bits-duration
float_from_bits-duration c = low _ (omega (arith, (parts c.args.w.now (passes _ _ c.fits.ensures (ap not c.if-not-fits.false))).duration))

pub float_from_bits-result : goal.float_from_bits-result
float_from_bits-result c = sized _ (parts c.args.w.now (passes _ _ c.fits.ensures (ap not c.if-not-fits.false))).end

pub returns-then-duration : goal.returns-then-duration
returns-then-duration c = valued-end c.args.w.now (passes _ _ c.fits.ensures (ap not c.if-not-fits.false)) c.if-duration.true

pub float_from_bits-w : goal.float_from_bits-w
float_from_bits-w c = low _ (omega (arith, (parts c.args.w.now (passes _ _ c.fits.ensures (ap not c.if-not-fits.false))).elapsed, (parts c.args.w.now (passes _ _ c.fits.ensures (ap not c.if-not-fits.false))).duration))

pub draw-requires : goal.draw-requires
draw-requires c = subst⁻¹ Within c.clamp01-u.ensures (clamped _ (sym c.is_nan.ensures ∙ c.if-is_nan.false))

pub blend_in-requires : goal.blend_in-requires
blend_in-requires c = passes _ _ c.fits.ensures (ap not c.if-not-fits.false)

pub returns-in-Some : goal.returns-in-Some
returns-in-Some c = rw c.blend_in.ensures (valued c.args.w.now (passes _ _ c.fits.ensures (ap not c.if-not-fits.false)) c.if-duration.false c.ratio-p.result c.ratio-p.ensures _ (plain-applies (easing_at c.args.w.now 3) c.ratio-p.result _ _ (sym c.in-Some.is ∙ c.draw.ensures) c.clamp01-u.ensures (sym c.is_nan.ensures ∙ c.if-is_nan.false)).1)

pub blend_in-requires-in-Some-search : goal.blend_in-requires-in-Some-search
blend_in-requires-in-Some-search c = passes _ _ c.fits.ensures (ap not c.if-not-fits.false)

pub returns-in-Some-search : goal.returns-in-Some-search
returns-in-Some-search c = rw (c.with_value.ensures, c.blend_in-in-Some-search.ensures) (valued c.args.w.now (passes _ _ c.fits.ensures (ap not c.if-not-fits.false)) c.if-duration.false c.ratio-p.result c.ratio-p.ensures _ (bezier-applies (easing_at c.args.w.now 3) c.ratio-p.result _ _ (sym c.in-Some-search.is ∙ c.search.ensures) c.clamp01-u.ensures (sym c.is_nan.ensures ∙ c.if-is_nan.false)).1)
