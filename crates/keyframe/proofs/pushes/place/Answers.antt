-- `place` meets its contract, by whether there is a place. Assumes nothing.
use Rattle.std.proofs.Common.{true, false, refl}
use Rattle.keyframe.specs.Inner.{room_outcome}
use Rattle.keyframe.proofs.Refusals.{place-by}
use Rattle.keyframe.proofs.pushes.place.Goals as goal

pub returns-in_default : goal.returns-in_default
unfolding room_outcome
returns-in_default c = rw (← c.put.ensures, c.in_default.is, c.new.ensures) (place-by c.args.track _ true _ refl)

pub returns : goal.returns
unfolding room_outcome
returns c = rw (← c.put.ensures, c.in-Ok.is) (place-by c.args.track _ false _ refl)
