-- `put_replayed` meets its contract, by what its callees ensure. Assumes nothing.
use borrow.Author.Tests.{ne_eqb}
use Rattle.capi.specs.Replays.{replayed_words, replayed_reached}
use Rattle.capi.proofs.replays.put_replayed.Goals as goal

pub returns-then-number-eq0 : goal.returns-then-number-eq0
unfolding replayed_words replayed_reached
returns-then-number-eq0 c = record { number = c.outcome_number-number.ensures; words = simp c.if-replayed-eq0.true; place = simp (c.if-replayed-eq0.true, ← c.outcome_number-number.ensures, c.if-number-eq0.true, c.counts.ensures) }

pub returns-else-number-eq0 : goal.returns-else-number-eq0
unfolding replayed_words replayed_reached
returns-else-number-eq0 c = record { number = c.outcome_number-number.ensures; words = simp c.if-replayed-eq0.true; place = simp (c.if-replayed-eq0.true, ← c.outcome_number-number.ensures, ne_eqb _ _ c.if-number-eq0.false) }

pub returns-then-sound : goal.returns-then-sound
unfolding replayed_words replayed_reached
returns-then-sound c = record { number = c.outcome_number-number.ensures; words = simp (ne_eqb _ _ c.if-replayed-eq0.false, c.if-sound.true, c.store_tween.ensures); place = simp (ne_eqb _ _ c.if-replayed-eq0.false, c.counts-then-sound.ensures) }

pub returns : goal.returns
unfolding replayed_words replayed_reached
returns c = record { number = c.outcome_number-number.ensures; words = simp (ne_eqb _ _ c.if-replayed-eq0.false, c.if-sound.false); place = simp (ne_eqb _ _ c.if-replayed-eq0.false, c.counts-2.ensures) }
