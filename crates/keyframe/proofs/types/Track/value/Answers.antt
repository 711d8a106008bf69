-- `value` meets its contract, by its outcome. Assumes nothing.
use Rattle.std.proofs.lemmas.Result.{err_from_is_err_and}
use Rattle.std.proofs.Common.{◌≡◌, true, sym, ◌∙◌, Err}
use Rattle.math.proofs.Choice.{fails, passes}
use Rattle.keyframe.specs.Limits.{within_of}
use Rattle.keyframe.specs.Playback.{active_of}
use Rattle.keyframe.specs.Sampling.{value_at_of}
use Rattle.keyframe.proofs.Records.{few-frames, frames-fine}
use Rattle.keyframe.proofs.Refusals.{sample-by, sample-some}
use mathlib.Core.Path.{ap}
use mathlib.Core.Bool.{not}
use Rattle.keyframe.proofs.types.Track.value.Goals as goal
use Rattle.keyframe.proofs.types.Track.value.Goals.{Else-not-is_within_limits}

within : (c : Else-not-is_within_limits) → within_of c.args.self ≡ true
within c = passes _ _ c.is_within_limits.ensures (ap not c.if-not-is_within_limits.false)

pub returns-then-not-is_within_limits : goal.returns-then-not-is_within_limits
unfolding value_at_of
returns-then-not-is_within_limits c = rw (fails _ _ c.is_within_limits.ensures (ap not c.if-not-is_within_limits.true))

pub returns-in_err-sample_outcome : goal.returns-in_err-sample_outcome
unfolding value_at_of
returns-in_err-sample_outcome c = let t = c.args.self in let p = err_from_is_err_and c.from_residual.result c.from_residual.ensures.1 in p.1 ∙ ap Err p.2 ∙ sample-by t (within (goal.at.returns-in_err-sample_outcome c).Else-not-is_within_limits) (active_of t) _ (sym c.in_err-sample_outcome.was ∙ c.sample_outcome.ensures)

pub active-secs-requires : goal.active-secs-requires
unfolding value_at_of
active-secs-requires c = few-frames _ (within (goal.at.active-secs-requires c).Else-not-is_within_limits)

pub sample-requires : goal.sample-requires
unfolding value_at_of
sample-requires c = let w = within (goal.at.sample-requires c).Else-not-is_within_limits in
    (frames-fine _ w, sample-some _ (sym c.in_ok-sample_outcome.was ∙ c.sample_outcome.ensures), few-frames _ w)

pub returns : goal.returns
unfolding value_at_of
returns c = let t = c.args.self in rw (c.sample.ensures, c.active-secs.ensures) (sample-by t (within (goal.at.returns c).Else-not-is_within_limits) (active_of t) _ (sym c.in_ok-sample_outcome.was ∙ c.sample_outcome.ensures))
