-- `update` meets its contract, by what the clock's step makes of the track. Assumes nothing.
use Rattle.std.proofs.Common.{◌≡◌, true, sym, ap, ◌∙◌, Err}
use Rattle.math.proofs.Choice.{fails, passes}
use Rattle.keyframe.specs.Limits.{within_of}
use Rattle.keyframe.specs.Clock.{ticked_in}
use Rattle.keyframe.proofs.Records.{few-frames}
use Rattle.keyframe.proofs.Moves.{step-broken}
use Rattle.keyframe.proofs.Ticks.{update-ticked}
use mathlib.Core.Bool.{not}
use Rattle.keyframe.proofs.types.Track.update.Goals as goal
use Rattle.keyframe.proofs.types.Track.update.Goals.{Else-not-is_within_limits}

within : (c : Else-not-is_within_limits) → within_of c.args.self ≡ true
within c = passes _ _ c.is_within_limits.ensures (ap not c.if-not-is_within_limits.false)

pub returns-then-not-is_within_limits : goal.returns-then-not-is_within_limits
returns-then-not-is_within_limits c = ap Err c.new.ensures ∙ step-broken c.args.self c.args.dt (fails _ _ c.is_within_limits.ensures (ap not c.if-not-is_within_limits.true))

pub last_time-requires : goal.last_time-requires
last_time-requires c = few-frames _ (within (goal.at.last_time-requires c).Else-not-is_within_limits)

pub returns-in-Ok : goal.returns-in-Ok
returns-in-Ok c = let e = rw (c.last_time.ensures, c.new-clock.ensures) at c.tick.ensures in
    rw c.moved.ensures (ap (ticked_in c.args.self) (sym c.in-Ok.is ∙ e) ∙ update-ticked c.args.self c.args.dt (within (goal.at.returns-in-Ok c).Else-not-is_within_limits))

pub returns-in-Err : goal.returns-in-Err
returns-in-Err c = let e = rw (c.last_time.ensures, c.new-clock.ensures) at c.tick.ensures in
    rw c.new-in-Err.ensures (ap (ticked_in c.args.self) (sym c.in-Err.is ∙ e) ∙ update-ticked c.args.self c.args.dt (within (goal.at.returns-in-Err c).Else-not-is_within_limits))
