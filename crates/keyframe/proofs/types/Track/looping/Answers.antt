-- `looping` meets its contract, by its outcome. Assumes nothing.
use Rattle.std.proofs.Common.{◌≡◌, true, sym, ◌∙◌, Err}
use Rattle.math.proofs.Choice.{fails, passes}
use Rattle.keyframe.specs.Limits.{within_of}
use Rattle.keyframe.proofs.Records.{few-frames}
use Rattle.keyframe.proofs.Changes.{mode-broken}
use Rattle.keyframe.proofs.Refusals.{looping-by}
use mathlib.Core.Path.{ap}
use mathlib.Core.Bool.{not}
use Rattle.keyframe.proofs.types.Track.looping.Goals as goal
use Rattle.keyframe.proofs.types.Track.looping.Goals.{Else-not-is_within_limits}

within : (c : Else-not-is_within_limits) → within_of c.args.self ≡ true
within c = passes _ _ c.is_within_limits.ensures (ap not c.if-not-is_within_limits.false)

pub returns-then-not-is_within_limits : goal.returns-then-not-is_within_limits
returns-then-not-is_within_limits c = ap Err c.new.ensures ∙ mode-broken c.args.self c.args.mode (fails _ _ c.is_within_limits.ensures (ap not c.if-not-is_within_limits.true))

pub last_time-requires : goal.last_time-requires
last_time-requires c = few-frames _ (within (goal.at.last_time-requires c).Else-not-is_within_limits)

pub returns-in-Err : goal.returns-in-Err
returns-in-Err c = let e = rw c.last_time.ensures at c.looping_outcome.ensures in
    ap Err c.new-in-Err.ensures ∙ looping-by c.args.self (within (goal.at.returns-in-Err c).Else-not-is_within_limits) c.args.mode _ (sym c.in-Err.is ∙ e)

pub returns : goal.returns
returns c = let e = rw c.last_time.ensures at c.looping_outcome.ensures in
    looping-by c.args.self (within (goal.at.returns c).Else-not-is_within_limits) c.args.mode _ (sym c.in_default.is ∙ e)
