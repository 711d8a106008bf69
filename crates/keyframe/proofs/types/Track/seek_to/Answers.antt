-- `seek_to` meets its contract, by its outcome. Assumes nothing.
use Rattle.std.proofs.Common.{◌≡◌, true, sym, ap, ◌∙◌, Ok, Err}
use Rattle.math.proofs.Choice.{fails, passes}
use Rattle.math.specs.Range.{clamp01_of}
use Rattle.keyframe.specs.Limits.{base_of, end_of, within_of}
use Rattle.keyframe.proofs.Records.{few-frames}
use Rattle.keyframe.proofs.Moves.{seek-broken}
use Rattle.keyframe.proofs.Refusals.{seek-by}
use Rattle.keyframe.proofs.Ticks.{sought-clock}
use mathlib.Core.Bool.{not}
use Rattle.keyframe.proofs.types.Track.seek_to.Goals as goal
use Rattle.keyframe.proofs.types.Track.seek_to.Goals.{Else-not-is_within_limits}

within : (c : Else-not-is_within_limits) → within_of c.args.self ≡ true
within c = passes _ _ c.is_within_limits.ensures (ap not c.if-not-is_within_limits.false)

pub returns-then-not-is_within_limits : goal.returns-then-not-is_within_limits
returns-then-not-is_within_limits c = ap Err c.new.ensures ∙ seek-broken c.args.self c.args.progress.0 (fails _ _ c.is_within_limits.ensures (ap not c.if-not-is_within_limits.true))

pub returns-in-Err : goal.returns-in-Err
returns-in-Err c = ap Err c.new-in-Err.ensures ∙ seek-by c.args.self (within (goal.at.returns-in-Err c).Else-not-is_within_limits) c.args.progress.0 _ (sym c.in-Err.is ∙ c.seek_outcome.ensures)

pub last_time-requires : goal.last_time-requires
last_time-requires c = few-frames _ (within (goal.at.last_time-requires c).Else-not-is_within_limits)

pub returns : goal.returns
returns c = rw (c.moved.ensures, c.seek-c.ensures, c.clamp01.ensures, c.last_time.ensures)
    (ap Ok (sought-clock c.args.self (end_of c.args.self.looping (base_of c.args.self)) (clamp01_of c.args.progress.0))
    ∙ seek-by c.args.self (within (goal.at.returns c).Else-not-is_within_limits) c.args.progress.0 _ (sym c.in_default.is ∙ c.seek_outcome.ensures))
