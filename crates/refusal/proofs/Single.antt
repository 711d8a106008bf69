-- A contract `r ≡ d` allows one answer. Assumes nothing.
use mathlib.Core.Path.{sym, ◌∙◌}
use Rattle.refusal.specs.Single.{OneAnswer}

pub one_answer : OneAnswer
one_answer A d r s h k = h ∙ sym k
