-- `lax_tween_value` meets its contract, by what its callees ensure. Assumes nothing.
use mathlib.Core.Path.{subst, ◌∙◌, ap}
use Rattle.tween_words.specs.Valuing.{ValuesTo}
use Rattle.capi.specs.Answers.{found_in}
use Rattle.capi.proofs.Quick.{valued}
use borrow.Author.Rules.{rules}
use Rattle.capi.proofs.tweens.lax_tween_value.Goals as goal
use Rattle.std.specs.Prelude.{Some}

pub returns-in-Some-Plain : goal.returns-in-Some-Plain
unfolding found_in
returns-in-Some-Plain c = c.put_plain.ensures ∙ valued _ _ _ (subst (ValuesTo _) (c.in-Some-Plain.is ∙ ap Some c.in-Some-Plain.field-0-is) c.value.ensures)

pub returns-in-Some-Searched : goal.returns-in-Some-Searched
unfolding found_in
returns-in-Some-Searched c = c.put_found.ensures ∙ valued _ _ _ (subst (ValuesTo _) (c.in-Some-Searched.is ∙ ap Some c.in-Some-Searched.field-0-is) c.value.ensures)

pub returns-in-None : goal.returns-in-None
unfolding found_in
returns-in-None c = search rules
