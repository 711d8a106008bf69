-- `lax_easing_apply` meets its contract, by what its callees ensure. Assumes nothing.
use mathlib.Core.Path.{sym, subst⁻¹, ◌∙◌}
use Rattle.math.specs.Range.{Within}
use Rattle.math.proofs.Ranges.{clamped}
use Rattle.words.specs.Lent.{easing_at}
use Rattle.easing_words.proofs.Applied.{plain-applies, bezier-applies}
use Rattle.capi.specs.Answers.{found_in}
use Rattle.capi.proofs.Quick.{applied}
use borrow.Author.Rules.{rules}
use Rattle.capi.proofs.easings.lax_easing_apply.Goals as goal

pub returns-then-is_nan : goal.returns-then-is_nan
unfolding found_in
returns-then-is_nan c = search rules

pub draw-requires : goal.draw-requires
unfolding found_in
draw-requires c = subst⁻¹ Within c.clamp01-u.ensures (clamped _ (sym c.is_nan.ensures ∙ c.if-is_nan.false))

pub returns-in-Some : goal.returns-in-Some
unfolding found_in
returns-in-Some c = c.put_plain.ensures ∙ applied _ _ _ _ (plain-applies (easing_at c.args.e.now 0) c.args.t _ _ (sym c.in-Some.is ∙ c.draw.ensures) c.clamp01-u.ensures (sym c.is_nan.ensures ∙ c.if-is_nan.false))

pub returns-in-Some-search : goal.returns-in-Some-search
unfolding found_in
returns-in-Some-search c = c.put_found.ensures ∙ applied _ _ _ _ (bezier-applies (easing_at c.args.e.now 0) c.args.t _ _ (sym c.in-Some-search.is ∙ c.search.ensures) c.clamp01-u.ensures (sym c.is_nan.ensures ∙ c.if-is_nan.false))

pub returns : goal.returns
unfolding found_in
returns c = search rules
