-- `later` meets its contract: each arm is what the definition picks at the test. Assumes nothing.
use Rattle.std.proofs.Common.{◌≡◌, Bool, true, false, cond, sym, ap}
use lib.Ieee.{Float, lt}
use Rattle.keyframe.specs.Pushing.{later_of}
use Rattle.keyframe.proofs.refusing.later.Goals as goal

picked : (last time : Float) (b : Bool) → lt time last ≡ b → cond b last time ≡ later_of last time
picked last time b h = ap (λ (c : Bool). cond c last time) (sym h)

pub returns-then-time-last : goal.returns-then-time-last
returns-then-time-last c = picked c.args.last c.args.time true c.if-time-last.true

pub returns-else-time-last : goal.returns-else-time-last
returns-else-time-last c = picked c.args.last c.args.time false c.if-time-last.false
