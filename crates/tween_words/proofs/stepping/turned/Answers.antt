-- `turned` meets its contract, mode by mode. Assumes nothing.
use mathlib.Core.Path.{sym}
use borrow.Author.Tests.{le-leb, lt-leb}
use Rattle.words.specs.Modes.{loop_from}
use Rattle.tween_words.proofs.Folding.{turn-once, turn-forever, turn-back, turn-times, turn_last, turn-next, else-once}
use Rattle.tween_words.proofs.stepping.turned.Goals as goal

pub returns-then-mode-eq2 : goal.returns-then-mode-eq2
unfolding loop_from
returns-then-mode-eq2 c = rw (c.new.ensures, c.if-mode-eq2.true) (sym (turn-forever _ _ c.requires.1))

pub returns-then-mode-eq3 : goal.returns-then-mode-eq3
unfolding loop_from
returns-then-mode-eq3 c = rw (c.new-then-mode-eq3.ensures, c.if-mode-eq3.true, c.flag_word.ensures) (sym (turn-back _ _))

pub returns-then-mode-eq1 : goal.returns-then-mode-eq1
unfolding loop_from
returns-then-mode-eq1 c = rw (c.new-then-mode-eq1.ensures, c.if-mode-eq1.true, c.passes-n.ensures) (sym (turn-times _ _ _ c.requires.1))

pub returns-then-mode-ne4 : goal.returns-then-mode-ne4
unfolding loop_from
returns-then-mode-ne4 c = rw (c.new-then-mode-ne4.ensures, else-once _ _ c.if-mode-eq1.false c.if-mode-eq2.false c.if-mode-eq3.false c.if-mode-ne4.true) (sym (turn-once _ _ c.requires.1))

pub returns-then-n-next : goal.returns-then-n-next
unfolding loop_from
returns-then-n-next c = rw (c.new-then-n-next.ensures, c.if-mode-ne4.false, c.flag_word-then-n-next.ensures, c.passes-n.ensures) (sym (turn_last _ _ _ (le-leb _ _ (rw c.passes-n.ensures at c.if-n-next.true))))

pub returns : goal.returns
unfolding loop_from
returns c = rw (c.new-2.ensures, c.if-mode-ne4.false, c.flag_word-2.ensures) (sym (turn-next _ _ _ (lt-leb _ _ (rw c.passes-n.ensures at c.if-n-next.false))))
