-- `push_row` meets its contract, by its outcomes. Assumes nothing.
use mathlib.Core.Path.{sym, ◌∙◌}
use Rattle.capi.proofs.Tracked.{both_words, push-unknown, push-is}
use Rattle.capi.proofs.tracks.push_row.Goals as goal

pub returns-in_default : goal.returns-in_default
returns-in_default c = both_words _ _ _ (push-unknown c.args.w.now c.args.row.now (sym (rw c.frame_in.ensures at c.read_frame.ensures) ∙ c.in_default.is))

pub returns-in-Err : goal.returns-in-Err
returns-in-Err c = both_words _ _ _ (rw c.number.ensures ((rw c.in-Err.is at c.takes_frame.ensures) c.args.row.now (sym (rw c.frame_in.ensures at c.read_frame.ensures) ∙ c.in-Some.is) (rw c.stored_row-stored.ensures at c.of_bits.ensures)))

pub put-full-requires : goal.put-full-requires
put-full-requires c = (rw c.in_default-takes_frame.is at c.takes_frame.ensures).0

pub returns-in-Err-room_outcome : goal.returns-in-Err-room_outcome
returns-in-Err-room_outcome c = let s = c.stored_row-stored.ensures in let taken = rw c.in_default-takes_frame.is at c.takes_frame.ensures in
    both_words _ _ _ (rw c.number-in-Err-room_outcome.ensures (push-is c.args.w.now c.args.row.now _ (sym (rw c.frame_in.ensures at c.read_frame.ensures) ∙ c.in-Some.is) taken.0 _ (rw c.stored_row-stored.ensures at c.of_bits.ensures) taken.1 _ (rw s at c.put-full.ensures.room) _ (rw s at c.put-full.ensures.words) _ (sym c.in-Err-room_outcome.is ∙ c.room_outcome.ensures)))

pub returns : goal.returns
returns c = let s = c.stored_row-stored.ensures in let taken = rw c.in_default-takes_frame.is at c.takes_frame.ensures in
    both_words _ _ _ (push-is c.args.w.now c.args.row.now _ (sym (rw c.frame_in.ensures at c.read_frame.ensures) ∙ c.in-Some.is) taken.0 _ (rw c.stored_row-stored.ensures at c.of_bits.ensures) taken.1 _ (rw s at c.put-full.ensures.room) _ (rw s at c.put-full.ensures.words) _ (sym c.in_default-room_outcome.is ∙ c.room_outcome.ensures))
