-- `room_outcome` meets its contract. Assumes nothing.
use Rattle.keyframe.specs.Inner.{room_outcome}
use Rattle.keyframe.proofs.refusing.room_outcome.Goals as goal

pub returns-then-full : goal.returns-then-full
unfolding room_outcome
returns-then-full c = rw c.if-full.true

pub returns : goal.returns
unfolding room_outcome
returns c = rw c.if-full.false
