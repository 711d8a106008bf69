-- Request 2, "Write the event log": the two calls, and their refusals in their order.
use Rattle.std.specs.Prelude.{◌≡◌, ℕ, ◌+◌, ◌-◌, ◌%◌, ◌<◌, ◌≤◌, Bool, cond, not, ◌&&◌, ◌||◌, ◌⊎◌, List, [], ◌∷◌, ◌++◌, length, take, drop, ◌==◌, is_nan, nat_le, slice_index, Err, Ok, Result}
use Rattle.std.specs.Float.Ieee.{lt}
use Rattle.math.specs.Bytes.{low_at}
use Rattle.math.specs.Rounded.{zero_f, top_f}
use Rattle.refusal.specs.declared.Refusal.{Refusal}
use Rattle.refusal.specs.declared.Refusal.TheVariants.{StepTooLong, NoRoom, StepBelowZero, WrongMark, UnknownVersion, WrongLength}
use Rattle.refusal.specs.Refusing.{unless, when}
use Rattle.event_log.specs.declared.event.Event.{Event}
use Rattle.event_log.specs.Format.{mark, version, head, step_of, next, record_of, starts_with}

-- what a call leaves: its answer, and every byte of the buffer
pub record Writing : Type 0 where
  pub answer : Result ℕ Refusal
  pub buffer : List ℕ

-- nothing is written
abbrev pub refused : List ℕ → Refusal → Writing
refused buffer r = record { answer = Err r; buffer = buffer }

-- bytes behind the first `written`; "other bytes stay"
abbrev pub wrote : List ℕ → ℕ → List ℕ → Writing
wrote buffer written new =
    record {
      answer = Ok (written + length new);
      buffer = take written buffer ++ new ++ drop (written + length new) buffer;
    }

-- "The head is written by a call of its own": 13 "no room [..] for the head, 5"
unfoldable pub head_in : List ℕ → Writing
head_in buffer = unless (nat_le 5 (length buffer)) (refused buffer NoRoom) (wrote buffer 0 head)

-- 5: "an update's step is above 16,777,216 (infinity too)"
abbrev pub is_long : Event → Bool
is_long e = lt top_f (step_of e)

-- 14: "step NaN or below zero"
abbrev pub is_backward : Event → Bool
is_backward e = is_nan (step_of e) || lt (step_of e) zero_f

-- not 17: "5 plus a multiple of 8"
abbrev pub is_whole : ℕ → Bool
is_whole written = nat_le 5 written && (written - 5) % 8 == 0

-- the number of the record at a place: "a 16-bit sequence number", "low byte first"
abbrev pub number_at : List ℕ → ℕ → ℕ
number_at log place = low_at 2 place log

-- "Records are numbered from 0, each by the one before plus one": the number of the record behind a log, which has a record from 13 bytes on
abbrev pub number_behind : List ℕ → ℕ
number_behind log = cond (nat_le 13 (length log)) (next (number_at log (length log - 8))) 0

-- "A record goes behind what is written in a lent buffer, whose written length is given". "Order: 5, 14, 17 where the length is beyond the buffer, 15, 16, 17, 13"
unfoldable pub record_in : List ℕ → ℕ → Event → Writing
record_in buffer written e =
    let log = take written buffer in
    when (is_long e) (refused buffer StepTooLong)
    (when (is_backward e) (refused buffer StepBelowZero)
    (unless (nat_le written (length buffer)) (refused buffer WrongLength)
    (unless (starts_with mark log) (refused buffer WrongMark)
    (unless (starts_with version (drop 3 log)) (refused buffer UnknownVersion)
    (unless (is_whole written) (refused buffer WrongLength)
    (unless (nat_le (written + 8) (length buffer)) (refused buffer NoRoom)
    (wrote buffer written (record_of (number_behind log) e))))))))

-- neither 5 nor 14
abbrev pub may_be_logged : Event → Bool
may_be_logged e = not (is_long e) && not (is_backward e)

-- a call behind another: it goes on where that one ended, and behind a refusal nothing is called
abbrev pub go_on : Writing → (List ℕ → ℕ → Writing) → Writing
go_on w call = answered w.answer
  where
    answered : Result ℕ Refusal → Writing
    answered (Ok n) = call w.buffer n
    answered (Err r) = w

-- a record for each of the events
unfoldable pub records_in : List Event → Writing → Writing
records_in [] w = w
records_in (e ∷ es) w = records_in es (go_on w (λ buffer written. record_in buffer written e))

-- "other bytes stay": there are as many as before, and each outside the n from a place on is as it was
abbrev pub Keeps : ℕ → ℕ → List ℕ → List ℕ → Type 0
Keeps place n before after = (length after ≡ length before) × ((i : ℕ) → (i < place) ⊎ (place + n ≤ i) → slice_index after i ≡ slice_index before i)
