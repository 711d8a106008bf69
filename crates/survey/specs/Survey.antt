-- What a survey of a log comes to: how far its replay has come, and what was counted on the way.
use Rattle.std.specs.Prelude.{ℕ, ◌+◌, ◌-◌, ◌≤◌, Bool, not, ◌&&◌, cond, List, [], ◌∷◌, ◌≡◌, ltb, length, Err, Ok, Result, ⊤}
use Rattle.reader.specs.declared.hear.Replay.{Replay}
use Rattle.reader.specs.declared.hear.Heard.{Heard}
use Rattle.reader.specs.Hearing.{capped, is_repeat, heard_of}
use Rattle.reader.specs.Reading.{reading_of}
use Rattle.survey.specs.declared.survey.Counts.{Counts}
use Rattle.refusal.specs.declared.Refusal.{Refusal}
use Rattle.refusal.specs.Refusing.{done}

abbrev pub zero_counts : Counts
zero_counts = record { records = 0; gaps = 0; repeats = 0; many = 0 }

-- one more where it is so
abbrev pub raised : ℕ → Bool → ℕ
raised n b = capped (n + cond b 1 0)

-- a record more: one with a gap before it, a repeat, or one that made more than one fold
abbrev pub counted_of : Counts → ℕ → ℕ → Counts
counted_of k gap made =
    record {
      records = capped (k.records + 1);
      gaps = raised k.gaps (ltb 0 gap && not (is_repeat gap));
      repeats = raised k.repeats (is_repeat gap);
      many = raised k.many (ltb 1 made);
    }

pub record Course : Type 0 where
  pub replay : Replay
  pub counts : Counts
  pub outcome : Result ⊤ Refusal

-- a record and the rest, or the first refusal. The folds of a record are what the sum grows by
abbrev pub surveyed : Result Heard Refusal → Replay → Counts → (Replay → Counts → Course) → Course
surveyed (Ok o) s k rest = rest o.reached (counted_of k o.gap (o.reached.folds - s.folds))
surveyed (Err r) s k rest = record { replay = s; counts = k; outcome = Err r }

-- records one behind the other
unfoldable pub survey_of : List (List ℕ) → Replay → Counts → Course
survey_of [] s k = record { replay = s; counts = k; outcome = done }
survey_of (r ∷ rs) s k = surveyed (heard_of s r) s k (survey_of rs)

-- a survey's replay is the reader's, so that all that is promised of a replay is promised of it
abbrev pub Reads : Type 0
Reads =
    (rs : List (List ℕ)) (s : Replay) (k : Counts) → k.records ≤ 18446744073709551615
    → ((survey_of rs s k).replay ≡ (reading_of rs s).replay)
    × ((survey_of rs s k).outcome ≡ (reading_of rs s).outcome)
    × ((survey_of rs s k).counts.records ≡ capped (k.records + length (reading_of rs s).gaps))
