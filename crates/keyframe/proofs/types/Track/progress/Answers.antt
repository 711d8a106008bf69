-- `progress` meets its contract. Assumes nothing.
use Rattle.std.proofs.Common.{◌≡◌, true, sym, ◌∙◌}
use Rattle.keyframe.specs.Limits.{within_of}
use Rattle.keyframe.specs.Playback.{progress_of}
use Rattle.keyframe.proofs.Records.{few-frames}
use Rattle.keyframe.proofs.types.Track.progress.Goals as goal
use Rattle.keyframe.proofs.types.Track.progress.Goals.{Then-is_within_limits}

within : (c : Then-is_within_limits) → within_of c.args.self ≡ true
within c = sym c.is_within_limits.ensures ∙ c.if-is_within_limits.true

pub last_time-requires : goal.last_time-requires
unfolding progress_of
last_time-requires c = few-frames _ (within (goal.at.last_time-requires c).Then-is_within_limits)

pub along-requires : goal.along-requires
unfolding progress_of
along-requires c = few-frames _ (within (goal.at.along-requires c).Then-is_within_limits)

pub returns-then-is_within_limits : goal.returns-then-is_within_limits
unfolding progress_of
returns-then-is_within_limits c = rw (within (goal.at.returns-then-is_within_limits c).Then-is_within_limits, c.along.ensures, c.end_of-end.ensures, c.last_time.ensures)

pub returns : goal.returns
unfolding progress_of
returns c = rw (sym c.is_within_limits.ensures ∙ c.if-is_within_limits.false)
