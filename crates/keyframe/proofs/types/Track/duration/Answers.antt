-- `duration` meets its contract. Assumes nothing.
use Rattle.std.proofs.Common.{◌≡◌, true, sym, ◌∙◌}
use Rattle.keyframe.specs.Limits.{within_of}
use Rattle.keyframe.specs.Playback.{duration_in}
use Rattle.keyframe.proofs.Records.{few-frames}
use Rattle.keyframe.proofs.types.Track.duration.Goals as goal
use Rattle.keyframe.proofs.types.Track.duration.Goals.{Then-is_within_limits}

within : (c : Then-is_within_limits) → within_of c.args.self ≡ true
within c = sym c.is_within_limits.ensures ∙ c.if-is_within_limits.true

pub last_time-requires : goal.last_time-requires
unfolding duration_in
last_time-requires c = few-frames _ (within (goal.at.last_time-requires c).Then-is_within_limits)

pub returns-then-is_within_limits : goal.returns-then-is_within_limits
unfolding duration_in
returns-then-is_within_limits c = rw (within (goal.at.returns-then-is_within_limits c).Then-is_within_limits, c.last_time.ensures)

pub returns : goal.returns
unfolding duration_in
returns c = rw (sym c.is_within_limits.ensures ∙ c.if-is_within_limits.false)
