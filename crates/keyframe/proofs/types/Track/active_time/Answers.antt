-- `active_time` meets its contract. Assumes nothing.
use Rattle.std.proofs.Common.{◌≡◌, true, sym, ◌∙◌}
use Rattle.keyframe.specs.Limits.{within_of}
use Rattle.keyframe.specs.Playback.{active_time_of}
use Rattle.keyframe.proofs.Records.{few-frames}
use Rattle.keyframe.proofs.types.Track.active_time.Goals as goal
use Rattle.keyframe.proofs.types.Track.active_time.Goals.{Then-is_within_limits}

within : (c : Then-is_within_limits) → within_of c.args.self ≡ true
within c = sym c.is_within_limits.ensures ∙ c.if-is_within_limits.true

pub active-requires : goal.active-requires
unfolding active_time_of
active-requires c = few-frames _ (within (goal.at.active-requires c).Then-is_within_limits)

pub returns-then-is_within_limits : goal.returns-then-is_within_limits
unfolding active_time_of
returns-then-is_within_limits c = rw (within (goal.at.returns-then-is_within_limits c).Then-is_within_limits, c.active.ensures)

pub returns : goal.returns
unfolding active_time_of
returns c = rw (sym c.is_within_limits.ensures ∙ c.if-is_within_limits.false)
