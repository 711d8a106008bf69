-- Request 2, "Write the event log": what holds of every log, and of every call. Each sentence is a type; its proof has its name in small letters.
use Rattle.std.specs.Prelude.{◌≡◌, ℕ, ◌+◌, ◌*◌, ◌%◌, ◌<◌, ◌≤◌, true, T, List, [], ◌∷◌, ◌++◌, length, drop, Err}
use Rattle.math.specs.Lists.{every}
use Rattle.math.specs.Rounded.{f32}
use Rattle.refusal.specs.declared.Refusal.{Refusal}
use Rattle.refusal.specs.declared.Refusal.TheVariants.{NoRoom}
use Rattle.event_log.specs.declared.event.Event.{Event}
use Rattle.event_log.specs.declared.event.Event.TheVariants.{Step, Pause, Resume, Reset}
use Rattle.event_log.specs.Format.{head, next, record_of, log_of}
use Rattle.event_log.specs.Writing.{refused, wrote, head_in, number_at, number_behind, record_in, may_be_logged, records_in, Keeps}

-- "A log begins with the three bytes `PEL` and a 16-bit version, now 1; then 8-byte records [..]; numbers low byte first": a step of 0.02 s, a pause, a resume, a step of -0 and a reset, byte by byte
abbrev pub SmallLog : Type 0
SmallLog =
    log_of (Step (f32 0x3ca3_d70a) ∷ Pause ∷ Resume ∷ Step (f32 0x8000_0000) ∷ Reset ∷ [])
    ≡ 0x50 ∷ 0x45 ∷ 0x4c ∷ 0x01 ∷ 0x00
    ∷ 0x00 ∷ 0x00 ∷ 0x01 ∷ 0x00 ∷ 0x0a ∷ 0xd7 ∷ 0xa3 ∷ 0x3c
    ∷ 0x01 ∷ 0x00 ∷ 0x02 ∷ 0x00 ∷ 0x00 ∷ 0x00 ∷ 0x00 ∷ 0x00
    ∷ 0x02 ∷ 0x00 ∷ 0x03 ∷ 0x00 ∷ 0x00 ∷ 0x00 ∷ 0x00 ∷ 0x00
    ∷ 0x03 ∷ 0x00 ∷ 0x01 ∷ 0x00 ∷ 0x00 ∷ 0x00 ∷ 0x00 ∷ 0x00
    ∷ 0x04 ∷ 0x00 ∷ 0x04 ∷ 0x00 ∷ 0x00 ∷ 0x00 ∷ 0x00 ∷ 0x00
    ∷ []

-- 5 bytes, and 8 for each event
abbrev pub LengthLog : Type 0
LengthLog = (es : List Event) → length (log_of es) ≡ 5 + 8 * length es

-- "Records are numbered from 0, each by the one before plus one, and 65,535 is followed by 0": of the record at place i
abbrev pub LogNumber : Type 0
LogNumber = (es : List Event) (i : ℕ) → i < length es → number_at (log_of es) (5 + 8 * i) ≡ i % 65536

-- added: a log in parts. Behind the head and one record of a log, with nothing between them, the number is the one that is due behind that record
abbrev pub PartNumber : Type 0
PartNumber = (n : ℕ) (e : Event) → n < 65536 → number_behind (head ++ record_of n e) ≡ next n

-- "A record goes behind what is written in a lent buffer": behind a log, it makes the log of one event more
abbrev pub LogMore : Type 0
LogMore =
    (buffer : List ℕ) (es : List Event) (e : Event) → may_be_logged e ≡ true → length (log_of es) + 8 ≤ length buffer
    → record_in (log_of es ++ drop (length (log_of es)) buffer) (length (log_of es)) e ≡ wrote buffer 0 (log_of (es ++ (e ∷ [])))

-- so what is written is a log: the head, and a record for each of n events that may be logged, are accepted where there is room for 5 + 8 n bytes, and leave the log of the events
abbrev pub WritesLog : Type 0
WritesLog =
    (buffer : List ℕ) (es : List Event) → T (every may_be_logged es) → 5 + 8 * length es ≤ length buffer
    → records_in es (head_in buffer) ≡ wrote buffer 0 (log_of es)

-- "other bytes stay": of the head's call all but the first 5
abbrev pub HeadKeeps : Type 0
HeadKeeps = (buffer : List ℕ) → Keeps 0 5 buffer (head_in buffer).buffer

-- and of a record's all but the 8 behind what is written
abbrev pub RecordKeeps : Type 0
RecordKeeps = (buffer : List ℕ) (written : ℕ) (e : Event) → Keeps written 8 buffer (record_in buffer written e).buffer

-- where a call is refused, all of them stay: "13 no room for 8 more bytes (for the head, 5)"
abbrev pub NoHead : Type 0
NoHead = (buffer : List ℕ) → length buffer < 5 → head_in buffer ≡ refused buffer NoRoom

abbrev pub RefusedStays : Type 0
RefusedStays =
    (buffer : List ℕ) (written : ℕ) (e : Event) (r : Refusal) → (record_in buffer written e).answer ≡ Err r
    → (record_in buffer written e).buffer ≡ buffer
