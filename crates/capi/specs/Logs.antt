-- The calls that write an event log, as the C interface has them.
use Rattle.std.specs.Prelude.{ℕ, List, cond, eqb, Err, None, Ok, Option, Result, Some}
use Rattle.event_log.specs.declared.event.Event.{Event}
use Rattle.event_log.specs.declared.event.Event.TheVariants.{Step, Pause, Resume, Reset}
use Rattle.event_log.specs.Writing.{head_in, record_in}
use Rattle.words.specs.Lent.{word_at, float_at}
use Rattle.capi.specs.Answers.{Answer, accepted, refused, unknown}
use Rattle.refusal.specs.declared.Refusal.{Refusal}

-- two words: the kind, with the log's numbers, and the step
unfoldable pub event_in : List ℕ → Option Event
event_in ws =
    cond (eqb (word_at ws 0) 1) (Some (Step (float_at ws 1)))
    (cond (eqb (word_at ws 0) 2) (Some Pause)
    (cond (eqb (word_at ws 0) 3) (Some Resume)
    (cond (eqb (word_at ws 0) 4) (Some Reset)
    None)))

-- the length of the written log
unfoldable pub length_in : ℕ → Result ℕ Refusal → Answer ℕ
length_in before (Ok n) = accepted n
length_in before (Err r) = refused before r

unfoldable pub lax_log_head : List ℕ → ℕ → Answer ℕ
lax_log_head buffer written = length_in written (head_in buffer).answer

abbrev pub on_event : {A : Type 0} → Option Event → (Event → A) → A → A
on_event (Some e) f a = f e
on_event None f a = a

unfoldable pub lax_log_record : List ℕ → ℕ → List ℕ → Answer ℕ
lax_log_record buffer written ws = on_event (event_in ws) (λ e. length_in written (record_in buffer written e).answer) (unknown written)

unfoldable pub lax_log_buffer : List ℕ → ℕ → List ℕ → List ℕ
lax_log_buffer buffer written ws = on_event (event_in ws) (λ e. (record_in buffer written e).buffer) buffer
