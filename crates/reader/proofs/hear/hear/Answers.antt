-- `hear` meets its contract, by what its callees ensure. Assumes nothing.
use Rattle.std.proofs.lemmas.Result.{err_from_is_err_and}
use Rattle.std.proofs.Common.{sym, ◌∙◌, ap, Err}
use Rattle.reader.proofs.Heard.{hears-wrong, hears-repeat, hears-played}
use Rattle.reader.proofs.hear.hear.Goals as goal

pub returns-then-is_wrong : goal.returns-then-is_wrong
returns-then-is_wrong c = sym (hears-wrong _ _ (sym c.is_wrong.ensures ∙ c.if-is_wrong.true))

pub returns-then-gap : goal.returns-then-gap
returns-then-gap c = sym (hears-repeat _ _ (sym c.is_wrong.ensures ∙ c.if-is_wrong.false) _ _ c.number_in-number.ensures c.gap_before-gap.ensures c.if-gap.true)

pub event_in-requires : goal.event_in-requires
event_in-requires c = sym c.is_wrong.ensures ∙ c.if-is_wrong.false

pub returns-in_err-played : goal.returns-in_err-played
returns-in_err-played c =
    let p = err_from_is_err_and c.from_residual.result c.from_residual.ensures.1 in
    p.1 ∙ ap Err p.2 ∙ sym (hears-played _ _ (sym c.is_wrong.ensures ∙ c.if-is_wrong.false) _ _ c.number_in-number.ensures c.gap_before-gap.ensures c.if-gap.false _ _ c.event_in.ensures (sym c.in_err-played.was ∙ c.play.ensures))

pub returns : goal.returns
returns c = rw (c.capped_add.ensures, c.capped_add-2.ensures) (sym (hears-played _ _ (sym c.is_wrong.ensures ∙ c.if-is_wrong.false) _ _ c.number_in-number.ensures c.gap_before-gap.ensures c.if-gap.false _ _ c.event_in.ensures (sym c.in_ok-played.was ∙ c.play.ensures)))
