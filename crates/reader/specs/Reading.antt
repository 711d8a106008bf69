-- Request 3, "Read it back and count the gaps": a whole log, and one that is read in parts.
use Rattle.std.specs.Prelude.{ℕ, ◌/◌, ◌%◌, List, [], ◌∷◌, ◌++◌, length, drop, ◌==◌, nat_le, Err, None, Ok, Result, ⊤}
use Rattle.refusal.specs.declared.Refusal.{Refusal}
use Rattle.refusal.specs.declared.Refusal.TheVariants.{RecordBreaksLimit, OutputTooShort, WrongMark, UnknownVersion, WrongLength}
use Rattle.refusal.specs.Refusing.{unless, done}
use Rattle.tween.specs.declared.record.Tween.{Tween}
use Rattle.tween.specs.Limits.{within_of}
use Rattle.event_log.specs.Format.{mark, version, starts_with}
use Rattle.reader.specs.declared.hear.Replay.{Replay}
use Rattle.reader.specs.declared.hear.Heard.{Heard}
use Rattle.reader.specs.declared.read.Replayed.{Replayed}
use Rattle.reader.specs.Records.{records_of}
use Rattle.reader.specs.Hearing.{heard_of}

-- what a reading comes to: what is missing before each record that was read, how far the replay has come, and how it ended
pub record Reading : Type 0 where
  pub gaps : List ℕ
  pub replay : Replay
  pub outcome : Result ⊤ Refusal

-- no record read
abbrev pub ended : Replay → Result ⊤ Refusal → Reading
ended s o = record { gaps = []; replay = s; outcome = o }

-- no record read, and refused
abbrev pub stopped : Replay → Refusal → Reading
stopped s r = ended s (Err r)

-- a record, and the rest; or the first refusal, with "the tween as it stood, the total of the records before it and the list unwritten from there on"
abbrev pub followed : Result Heard Refusal → Replay → (Replay → Reading) → Reading
followed (Ok h) s rest =
    let c = rest h.reached in
    record { gaps = h.gap ∷ c.gaps; replay = c.replay; outcome = c.outcome }
followed (Err r) s rest = stopped s r

-- "A reader replays a PEL log into a tween", record by record
unfoldable pub reading_of : List (List ℕ) → Replay → Reading
reading_of [] s = ended s done
reading_of (r ∷ rs) s = followed (heard_of s r) s (reading_of rs)

-- "17 tail shorter than a record, 12 list shorter than the records, tested in that order before any replay"
unfoldable pub read_on_of : Replay → List ℕ → List ℕ → Reading
read_on_of s bytes list =
    unless (length bytes % 8 == 0) (stopped s WrongLength)
    (unless (nat_le (length bytes / 8) (length list)) (stopped s OutputTooShort)
    (reading_of (records_of bytes) s))

-- nothing read yet
abbrev pub begin_of : Tween → Replay
begin_of t = record { tween = t; last = None; missing = 0; folds = 0 }

-- "Refusals: 4, 15, 16," and then as above, behind the head's 5 bytes
unfoldable pub replay_of : Tween → List ℕ → List ℕ → Reading
replay_of t log list =
    unless (within_of t) (stopped (begin_of t) RecordBreaksLimit)
    (unless (starts_with mark log) (stopped (begin_of t) WrongMark)
    (unless (starts_with version (drop 3 log)) (stopped (begin_of t) UnknownVersion)
    (read_on_of (begin_of t) (drop 5 log) list)))

-- where it stopped is "the record's place": so many were read before it
abbrev pub answer_of : Reading → Replayed
answer_of c = record { reached = c.replay; done = length c.gaps; outcome = c.outcome }

-- a reading that ended so, and what follows it in the log: behind a refusal nothing is read
abbrev pub joined_by : Result ⊤ Refusal → Reading → (Replay → Reading) → Reading
joined_by (Ok tt) c rest =
    let d = rest c.replay in
    record { gaps = c.gaps ++ d.gaps; replay = d.replay; outcome = d.outcome }
joined_by (Err r) c rest = c

abbrev pub joined : Reading → (Replay → Reading) → Reading
joined c rest = joined_by c.outcome c rest
