-- The calls that read an event log, as the C interface has them.
use Rattle.std.specs.Prelude.{ℕ, List, [], ◌∷◌, Bool, cond, ltb, eqb, None, Option, Some}
use Rattle.steps.specs.Course.{outcome_number, over}
use Rattle.reader.specs.declared.hear.Replay.{Replay}
use Rattle.reader.specs.declared.read.Replayed.{Replayed}
use Rattle.reader.specs.Reading.{Reading, read_on_of, replay_of, answer_of}
use Rattle.tween.specs.Limits.{within_of}
use Rattle.words.specs.Lent.{word_at, tween_into}
use Rattle.capi.specs.Answers.{Answer, answering, unknown}
use Rattle.capi.specs.Tweens.{on_tween, idle}

-- a number of 16 bits, or 65,536 where no record was read
unfoldable pub last_from : ℕ → Option (Option ℕ)
last_from n = cond (ltb n 65536) (Some (Some n)) (cond (eqb n 65536) (Some None) None)

abbrev pub last_word : Option ℕ → ℕ
last_word None = 65536
last_word (Some n) = n

-- reached is four numbers: the records missing, the folds, the last number, and how many records were read
pub record Replaying : Type 0 where
  pub words : List ℕ
  pub gaps : List ℕ
  pub reached : List ℕ

abbrev pub reached_words : Replay → ℕ → List ℕ
reached_words s done = s.missing ∷ s.folds ∷ last_word s.last ∷ done ∷ []

-- a replay that stops at a record leaves what the records before it made; a tween that breaks a limit, which no record changes, stays as it came
unfoldable pub replayed_words : Bool → List ℕ → Replayed → List ℕ
replayed_words sound ws r = cond (eqb r.done 0) ws (cond sound (tween_into ws r.reached.tween) ws)

unfoldable pub replayed_reached : List ℕ → Replayed → List ℕ
replayed_reached reached r = cond (idle r.done (outcome_number r.outcome)) reached (reached_words r.reached r.done)

unfoldable pub replayed_in : Bool → Replaying → Reading → Answer Replaying
replayed_in sound came reading =
    let r = answer_of reading in
    answering (outcome_number r.outcome)
    (record {
      words = replayed_words sound came.words r;
      gaps = over reading.gaps came.gaps;
      reached = replayed_reached came.reached r;
    })

unfoldable pub lax_replay : List ℕ → List ℕ → List ℕ → List ℕ → Answer Replaying
lax_replay ws log gaps reached =
    let came : Replaying = record { words = ws; gaps = gaps; reached = reached } in
    on_tween ws came (λ t. replayed_in (within_of t) came (replay_of t log gaps))

abbrev pub on_last : {A : Type 0} → Option (Option ℕ) → A → (Option ℕ → Answer A) → Answer A
on_last (Some l) came answer = answer l
on_last None came answer = unknown came

-- the records that follow
unfoldable pub lax_replay_on : List ℕ → List ℕ → List ℕ → List ℕ → Answer Replaying
lax_replay_on ws records gaps reached =
    let came : Replaying = record { words = ws; gaps = gaps; reached = reached } in
    on_tween ws came (λ t.
    on_last (last_from (word_at reached 2)) came (λ l.
    let begun : Replay = record { tween = t; last = l; missing = word_at reached 0; folds = word_at reached 1 } in
    replayed_in (within_of t) came (read_on_of begun records gaps)))
