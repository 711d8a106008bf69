-- `lax_tween_playback_duration` meets its contract, by what its callees ensure. Assumes nothing.
use mathlib.Core.Path.{◌∙◌}
use Rattle.std.proofs.Common.{rules}
use Rattle.capi.specs.Tweens.{lax_tween_playback_duration}
use Rattle.capi.proofs.Given.{given-seconds}
use Rattle.capi.proofs.tweens.lax_tween_playback_duration.Goals as goal

pub returns-in-Some : goal.returns-in-Some
unfolding lax_tween_playback_duration
returns-in-Some c = c.put.ensures ∙ given-seconds _ c.playback_duration.result c.map.result c.map.ensures.cases (λ s x l. search rules) ∙ simp (← c.tween_in.ensures, ← c.tween_of.ensures, c.in-Some.is, c.playback_duration.ensures)

pub returns-in-None : goal.returns-in-None
unfolding lax_tween_playback_duration
returns-in-None c = simp (← c.tween_in.ensures, ← c.tween_of.ensures, c.in-None.is)
