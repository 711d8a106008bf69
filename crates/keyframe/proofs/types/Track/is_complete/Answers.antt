-- `is_complete` meets its contract. Assumes nothing.
use Rattle.std.proofs.Common.{◌≡◌, true, sym, ◌∙◌}
use Rattle.keyframe.specs.Limits.{within_of}
use Rattle.keyframe.specs.Playback.{complete_of}
use Rattle.keyframe.proofs.types.Track.is_complete.Goals as goal
use Rattle.keyframe.proofs.types.Track.is_complete.Goals.{Then-is_within_limits}

within : (c : Then-is_within_limits) → within_of c.args.self ≡ true
within c = sym c.is_within_limits.ensures ∙ c.if-is_within_limits.true

pub returns-then-is_within_limits : goal.returns-then-is_within_limits
unfolding complete_of
returns-then-is_within_limits c = rw (within (goal.at.returns-then-is_within_limits c).Then-is_within_limits, c.is_done.ensures)

pub returns : goal.returns
unfolding complete_of
returns c = rw (sym c.is_within_limits.ensures ∙ c.if-is_within_limits.false)
