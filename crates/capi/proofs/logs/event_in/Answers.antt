-- `event_in` meets its contract, by what its callees ensure. Assumes nothing.
use borrow.Author.Tests.{ne_eqb}
use Rattle.capi.specs.Logs.{event_in}
use Rattle.capi.proofs.logs.event_in.Goals as goal

pub returns-in-1 : goal.returns-in-1
unfolding event_in
returns-in-1 c = simp (c.in-1.is, c.of_bits.ensures)

pub returns-in-2 : goal.returns-in-2
unfolding event_in
returns-in-2 c = simp c.in-2.is

pub returns-in-3 : goal.returns-in-3
unfolding event_in
returns-in-3 c = simp c.in-3.is

pub returns-in-4 : goal.returns-in-4
unfolding event_in
returns-in-4 c = simp c.in-4.is

pub returns-in_default : goal.returns-in_default
unfolding event_in
returns-in_default c = simp (ne_eqb _ 1 c.in_default.in_default-own.rest.0.0.0.1, ne_eqb _ 2 c.in_default.in_default-own.rest.0.0.1, ne_eqb _ 3 c.in_default.in_default-own.rest.0.1, ne_eqb _ 4 c.in_default.in_default-own.rest.1)
