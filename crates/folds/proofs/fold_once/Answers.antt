-- `fold_once` meets its contract: each arm is told its mode. Assumes nothing.
use borrow.Author.Tests.{le-leb, lt-leb}
use Rattle.folds.specs.Folds.{fold_once}
use Rattle.folds.proofs.fold_once.Goals as goal

pub returns-then-passes-count : goal.returns-then-passes-count
unfolding fold_once
returns-then-passes-count c = simp (c.complete-then-passes-count.ensures, c.in-Times.is, ← c.passes.ensures, le-leb _ _ c.if-passes-count.true)

pub returns-then-m-count : goal.returns-then-m-count
unfolding fold_once
returns-then-m-count c = simp (c.complete-then-m-count.ensures, c.in-PingPongTimes.is, ← c.passes-m.ensures, le-leb _ _ c.if-m-count.true)

pub returns-in-Once : goal.returns-in-Once
unfolding fold_once
returns-in-Once c = simp (c.complete.ensures, c.in-Once.is)

pub returns-else-passes-count : goal.returns-else-passes-count
unfolding fold_once
returns-else-passes-count c = simp (c.go_on.ensures, c.in-Times.is, ← c.passes.ensures, lt-leb _ _ c.if-passes-count.false)

pub returns-in-Forever : goal.returns-in-Forever
unfolding fold_once
returns-in-Forever c = simp (c.go_on-in-Forever.ensures, c.in-Forever.is)

pub returns-in-PingPong : goal.returns-in-PingPong
unfolding fold_once
returns-in-PingPong c = simp (c.go_on-in-PingPong.ensures, c.in-PingPong.is)

pub returns-else-m-count : goal.returns-else-m-count
unfolding fold_once
returns-else-m-count c = simp (c.go_on-in-PingPongTimes.ensures, c.in-PingPongTimes.is, ← c.passes-m.ensures, lt-leb _ _ c.if-m-count.false)
