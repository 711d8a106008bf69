-- `lax_track_reset` meets its contract, by the two ways of the check. Assumes nothing.
use mathlib.Core.Path.{sym, ap, ◌∙◌}
use lib.Ieee.{of_bits}
use Rattle.words.specs.Faults.{faulted_number}
use Rattle.capi.proofs.Tracked.{answered, both_words, stopped-reset, reset-is}
use Rattle.capi.proofs.tracks.lax_track_reset.Goals as goal

pub returns-in-Err : goal.returns-in-Err
returns-in-Err c = both_words _ _ _ (rw c.number.ensures (stopped-reset c.args.w.now _ (sym (ap faulted_number c.in-Err.is) ∙ c.check.ensures)))

pub returns : goal.returns
unfolding of_bits
returns c = both_words _ _ _ (ap (answered 0) (c.store_clock.ensures ∙ rw c.new.ensures) ∙ reset-is c.args.w.now (sym c.check.ensures ∙ ap faulted_number c.in_default.is))
