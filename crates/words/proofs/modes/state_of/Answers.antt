-- `state_of` meets its contract: each arm is told its number. Assumes nothing.
use borrow.Author.Tests.{ne_eqb}
use Rattle.words.specs.Modes.{state_from}
use Rattle.words.proofs.modes.state_of.Goals as goal

pub returns-in-0 : goal.returns-in-0
unfolding state_from
returns-in-0 c = simp c.in-0.is

pub returns-in-1 : goal.returns-in-1
unfolding state_from
returns-in-1 c = simp c.in-1.is

pub returns-in-2 : goal.returns-in-2
unfolding state_from
returns-in-2 c = simp c.in-2.is

pub returns-in-3 : goal.returns-in-3
unfolding state_from
returns-in-3 c = simp c.in-3.is

pub returns-in_default : goal.returns-in_default
unfolding state_from
returns-in_default c = simp (ne_eqb _ 0 c.in_default.in_default-own.rest.0.0.0.1, ne_eqb _ 1 c.in_default.in_default-own.rest.0.0.1, ne_eqb _ 2 c.in_default.in_default-own.rest.0.1, ne_eqb _ 3 c.in_default.in_default-own.rest.1)
