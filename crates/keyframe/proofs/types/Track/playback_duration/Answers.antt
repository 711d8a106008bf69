-- `playback_duration` meets its contract. Assumes nothing.
use Rattle.std.proofs.Common.{◌≡◌, true, sym, ◌∙◌}
use Rattle.keyframe.specs.Limits.{within_of}
use Rattle.keyframe.specs.Playback.{playback_in}
use Rattle.keyframe.proofs.Records.{few-frames}
use Rattle.keyframe.proofs.types.Track.playback_duration.Goals as goal
use Rattle.keyframe.proofs.types.Track.playback_duration.Goals.{Then-is_within_limits}

within : (c : Then-is_within_limits) → within_of c.args.self ≡ true
within c = sym c.is_within_limits.ensures ∙ c.if-is_within_limits.true

pub last_time-base-requires : goal.last_time-base-requires
unfolding playback_in
last_time-base-requires c = few-frames _ (within (goal.at.last_time-base-requires c).Then-is_within_limits)

pub returns-then-is_within_limits : goal.returns-then-is_within_limits
unfolding playback_in
returns-then-is_within_limits c = rw (within (goal.at.returns-then-is_within_limits c).Then-is_within_limits, c.playback-total.ensures, c.end_of.ensures, c.last_time-base.ensures)

pub returns : goal.returns
unfolding playback_in
returns c = rw (sym c.is_within_limits.ensures ∙ c.if-is_within_limits.false)
