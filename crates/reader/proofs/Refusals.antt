-- What the calls come to, refusal by refusal, in their order. Assumes nothing.
use Rattle.std.proofs.Common.{◌≡◌, ℕ, ◌/◌, ◌%◌, ◌<◌, ◌≤◌, true, false, List, length, drop, arith, length-drop, eq-eqb, ne_eqb, le-leb}
use borrow.Author.Tests.{lt-leb}
use Rattle.refusal.specs.declared.Refusal.TheVariants.{RecordBreaksLimit, OutputTooShort, WrongMark, UnknownVersion, WrongLength}
use Rattle.tween.specs.declared.record.Tween.{Tween}
use Rattle.tween.specs.Limits.{within_of}
use Rattle.event_log.specs.Format.{mark, version, starts_with}
use Rattle.event_log.proofs.Heads.{starts-within}
use Rattle.reader.specs.declared.hear.Replay.{Replay}
use Rattle.reader.specs.Records.{records_of}
use Rattle.reader.specs.Reading.{stopped, reading_of, read_on_of, begin_of, replay_of}

module _ (s : Replay) (bytes list : List ℕ) where
  pub ragged : (length bytes % 8 ≡ 0 → ⊥) → read_on_of s bytes list ≡ stopped s WrongLength
  unfolding read_on_of
  ragged h = rw (ne_eqb (length bytes % 8) 0 h)

  module _ (whole : length bytes % 8 ≡ 0) where
    pub short : length list < length bytes / 8 → read_on_of s bytes list ≡ stopped s OutputTooShort
    unfolding read_on_of
    short h = rw (eq-eqb (length bytes % 8) 0 whole, lt-leb (length bytes / 8) (length list) h)

    pub reads : length bytes / 8 ≤ length list → read_on_of s bytes list ≡ reading_of (records_of bytes) s
    unfolding read_on_of
    reads h = rw (eq-eqb (length bytes % 8) 0 whole, le-leb (length bytes / 8) (length list) h)

module _ (t : Tween) (log list : List ℕ) where
  pub broken : within_of t ≡ false → replay_of t log list ≡ stopped (begin_of t) RecordBreaksLimit
  unfolding replay_of
  broken h = rw h

  module _ (within : within_of t ≡ true) where
    pub unmarked : starts_with mark log ≡ false → replay_of t log list ≡ stopped (begin_of t) WrongMark
    unfolding replay_of
    unmarked h = rw (within, h)

    module _ (marked : starts_with mark log ≡ true) where
      pub unknown : starts_with version (drop 3 log) ≡ false → replay_of t log list ≡ stopped (begin_of t) UnknownVersion
      unfolding replay_of
      unknown h = rw (within, marked, h)

      pub reads-log : starts_with version (drop 3 log) ≡ true → replay_of t log list ≡ read_on_of (begin_of t) (drop 5 log) list
      unfolding replay_of
      reads-log h = rw (within, marked, h)

-- a log whose version is right has its head whole
pub head-whole : (log : List ℕ) → starts_with version (drop 3 log) ≡ true → 5 ≤ length log
head-whole log h = omega (arith, starts-within version (drop 3 log) h, length-drop 3 log)
