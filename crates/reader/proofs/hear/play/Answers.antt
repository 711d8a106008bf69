-- `play` meets its contract, by what the tween's calls ensure. Assumes nothing.
use Rattle.std.proofs.lemmas.Result.{err_from_is_err_and}
use Rattle.std.proofs.Common.{sym, ap, ◌∙◌, Err}
use Rattle.reader.specs.Hearing.{played_of, by_update, by_change}
use Rattle.reader.proofs.hear.play.Goals as goal

pub returns-in_ok-updated-in-Step : goal.returns-in_ok-updated-in-Step
unfolding played_of
returns-in_ok-updated-in-Step c = rw c.in-Step.is (sym (ap by_update (sym c.update.ensures ∙ c.in_ok-updated-in-Step.was)))

pub returns-in_err-updated-in-Step : goal.returns-in_err-updated-in-Step
unfolding played_of
returns-in_err-updated-in-Step c =
    let p = err_from_is_err_and c.from_residual.result c.from_residual.ensures.1 in
    rw c.in-Step.is (p.1 ∙ ap Err p.2 ∙ sym (ap by_update (sym c.update.ensures ∙ c.in_err-updated-in-Step.was)))

pub returns-in-Pause : goal.returns-in-Pause
unfolding played_of
returns-in-Pause c = rw c.in-Pause.is (c.changed.ensures ∙ ap by_change c.pause.ensures)

pub returns-in-Resume : goal.returns-in-Resume
unfolding played_of
returns-in-Resume c = rw c.in-Resume.is (c.changed-in-Resume.ensures ∙ ap by_change c.resume.ensures)

pub returns-in-Reset : goal.returns-in-Reset
unfolding played_of
returns-in-Reset c = rw c.in-Reset.is (c.changed-in-Reset.ensures ∙ ap by_change c.reset.ensures)
