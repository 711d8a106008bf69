-- The definitions that the examples compute with: to unfold `easings`, `tweens` or `tracks` is to unfold those of that layer and below.
use lib.Ieee.{sub, mul, div, le, is_nan, of_int, of_bits, to_unsigned}
use Rattle.bezier.specs.Bezier.{solution_of, cubic_bezier}
use Rattle.bezier.specs.Curve.{sample_cubic_of}
use Rattle.bezier.specs.Search.{turn_of, newton_of}
use Rattle.easing.specs.Kinds.{supplied_of}
use Rattle.easing.specs.Params.{params_of, within_of as params_within}
use Rattle.easing.specs.Apply.{search_of, apply_of, fits_record_of}
use Rattle.loop_mode.specs.Passes.{within_of as mode_within}
use Rattle.tween.specs.Limits.{settings_within, clock_within, within_of as tween_within}
use Rattle.tween.specs.Calls.{value_of, reset_of}
use Rattle.folds.specs.Folds.{fold_once, due, folds_of}
use Rattle.tween.specs.Update.{folded, advanced, wait_of, run_of, by_state, update_of as tween_update}
use Rattle.frames.specs.Limits.{is_time, frame_within, frames_after}
use Rattle.frames.specs.Sampling.{duration_of, between_of, leading, sample_of}
use Rattle.frames.specs.Pushing.{pushed_of, put_of}
use Rattle.keyframe.specs.Limits.{end_of, mode_fits, clock_fits, within_of as track_within}
use Rattle.keyframe.specs.Pushing.{new_track, takes_of, placed_of, push_of, looping_of}
use Rattle.keyframe.specs.Sampling.{value_at_of}
use Rattle.keyframe.specs.Stepping.{final_of, advance_of, update_of as track_update}

unfoldable pub easings : Unit {0}
unfolding cubic_bezier solution_of newton_of turn_of sample_cubic_of supplied_of params_of params_within search_of apply_of fits_record_of sub mul div le is_nan of_int of_bits to_unsigned
easings = tt

unfoldable pub tweens : Unit {0}
unfolding easings mode_within settings_within clock_within tween_within value_of reset_of fold_once due folds_of folded advanced wait_of run_of by_state tween_update
tweens = tt

unfoldable pub tracks : Unit {0}
unfolding easings mode_within is_time frame_within frames_after duration_of between_of leading sample_of pushed_of put_of end_of mode_fits clock_fits track_within new_track takes_of placed_of push_of looping_of value_at_of final_of advance_of track_update
tracks = tt
