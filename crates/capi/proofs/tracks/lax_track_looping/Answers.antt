-- `lax_track_looping` meets its contract, by whether the track takes the mode. Assumes nothing.
use mathlib.Core.Path.{sym, ◌∙◌}
use Rattle.capi.proofs.Tracked.{both_words, looping-unknown}
use Rattle.capi.proofs.tracks.lax_track_looping.Goals as goal

pub returns-in_default : goal.returns-in_default
returns-in_default c = both_words _ _ _ (looping-unknown c.args.w.now c.args.mode.now (rw (← c.loop_in.ensures, ← c.loop_of.ensures) c.in_default.is))

pub returns-in-Err : goal.returns-in-Err
returns-in-Err c = both_words _ _ _ (rw c.number.ensures (rw c.in-Err.is at (c.takes_mode.ensures c.args.mode.now (sym (rw c.loop_in.ensures at c.loop_of.ensures) ∙ c.in-Some.is))))

pub returns : goal.returns
returns c = both_words _ _ _ (rw c.in_default-takes_mode.is at (c.takes_mode.ensures c.args.mode.now (sym (rw c.loop_in.ensures at c.loop_of.ensures) ∙ c.in-Some.is)))
