-- `event_in` meets its contract: each arm is told its kind. Assumes nothing.
use Rattle.std.proofs.Common.{ne_eqb}
use Rattle.reader.specs.Records.{event_in}
use Rattle.reader.proofs.Wrongs.{right-step}
use Rattle.reader.proofs.record.event_in.Goals as goal

pub float_from_bits-result : goal.float_from_bits-result
unfolding event_in
float_from_bits-result c = rw c.bits_in.ensures (right-step _ c.in-1.is c.requires)

pub returns-in-1 : goal.returns-in-1
unfolding event_in
returns-in-1 c = simp (c.in-1.is, c.bits_in.ensures)

pub returns-in-2 : goal.returns-in-2
unfolding event_in
returns-in-2 c = simp c.in-2.is

pub returns-in-3 : goal.returns-in-3
unfolding event_in
returns-in-3 c = simp c.in-3.is

pub returns-in_default : goal.returns-in_default
unfolding event_in
returns-in_default c = simp (ne_eqb _ 1 c.in_default.in_default-own.rest.0.0.1, ne_eqb _ 2 c.in_default.in_default-own.rest.0.1, ne_eqb _ 3 c.in_default.in_default-own.rest.1)
