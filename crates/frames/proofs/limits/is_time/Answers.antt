-- `is_time` meets its contract. That a zero has one form of either sign rests on t being a value of binary32. Assumes nothing.
use denote.Floats.{passes}
use Rattle.frames.proofs.Times.{number, at_zero, off_zero}
use Rattle.frames.proofs.limits.is_time.Goals as goal

pub returns-then-t : goal.returns-then-t
returns-then-t c = at_zero c.args.t (passes _ c.well_formed.0.1) c.if-t.true

pub returns : goal.returns
returns c = off_zero c.args.t c.if-t.false
