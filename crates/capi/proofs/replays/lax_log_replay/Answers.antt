-- `lax_log_replay` meets its contract, by what its callees ensure. Assumes nothing.
use mathlib.Core.Path.{refl, sym, ◌∙◌}
use Rattle.capi.specs.Replays.{lax_replay}
use Rattle.capi.proofs.Runs.{replayed-as}
use Rattle.capi.proofs.replays.lax_log_replay.Goals as goal

pub returns-in-Some : goal.returns-in-Some
unfolding lax_replay
returns-in-Some c = rw (sym (rw c.tween_in.ensures at c.tween_of.ensures) ∙ c.in-Some.is, ← c.within-sound.ensures) (replayed-as _ _ _ _ _ _ _ _ c.replay.ensures.answer c.put_replayed.ensures.number c.put_replayed.ensures.words c.put_replayed.ensures.place c.replay.ensures.list)

pub returns-in-None : goal.returns-in-None
unfolding lax_replay
returns-in-None c = rw (sym (rw c.tween_in.ensures at c.tween_of.ensures) ∙ c.in-None.is) refl
