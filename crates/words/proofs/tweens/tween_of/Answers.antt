-- `tween_of` meets its contract, by what its callees ensure. Assumes nothing.
use Rattle.words.specs.Tweens.{tween_from}
use Rattle.words.proofs.tweens.tween_of.Goals as goal

pub returns-in_err-easing : goal.returns-in_err-easing
unfolding tween_from
returns-in_err-easing c = simp (c.from_residual.ensures, ← c.easing_of.ensures, c.in_err-easing.was)

pub returns-in_err-looping : goal.returns-in_err-looping
unfolding tween_from
returns-in_err-looping c = simp (c.from_residual-in_err-looping.ensures, ← c.easing_of.ensures, c.in_ok-easing.was, ← c.loop_of.ensures, c.in_err-looping.was)

pub returns-in_err-state : goal.returns-in_err-state
unfolding tween_from
returns-in_err-state c = simp (c.from_residual-in_err-state.ensures, ← c.easing_of.ensures, c.in_ok-easing.was, ← c.loop_of.ensures, c.in_ok-looping.was, ← c.state_of.ensures, c.in_err-state.was)

pub returns : goal.returns
unfolding tween_from
returns c = simp (← c.easing_of.ensures, c.in_ok-easing.was, ← c.loop_of.ensures, c.in_ok-looping.was, ← c.state_of.ensures, c.in_ok-state.was)
