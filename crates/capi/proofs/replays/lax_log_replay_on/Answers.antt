-- `lax_log_replay_on` meets its contract, by what its callees ensure. Assumes nothing.
use mathlib.Core.Path.{refl, sym, ◌∙◌}
use Rattle.capi.specs.Replays.{lax_replay_on}
use Rattle.capi.proofs.Runs.{replayed-as}
use Rattle.capi.proofs.replays.lax_log_replay_on.Goals as goal

pub returns-in_default : goal.returns-in_default
unfolding lax_replay_on
returns-in_default c = rw (sym (rw c.tween_in.ensures at c.tween_of.ensures) ∙ c.in_default.is) refl

pub returns-in_default-last_of : goal.returns-in_default-last_of
unfolding lax_replay_on
returns-in_default-last_of c = rw (sym (rw c.tween_in.ensures at c.tween_of.ensures) ∙ c.in-Some.is, sym c.last_of.ensures ∙ c.in_default-last_of.is) refl

pub returns : goal.returns
unfolding lax_replay_on
returns c = rw (sym (rw c.tween_in.ensures at c.tween_of.ensures) ∙ c.in-Some.is, sym c.last_of.ensures ∙ c.in-Some-last_of.is, ← c.within-sound.ensures) (replayed-as _ _ _ _ _ _ _ _ c.replay_on.ensures.answer c.put_replayed.ensures.number c.put_replayed.ensures.words c.put_replayed.ensures.place c.replay_on.ensures.list)
