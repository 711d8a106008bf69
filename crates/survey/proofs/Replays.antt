-- A survey's replay is the reader's. Assumes nothing.
use Rattle.std.specs.Prelude.{Err, Result, Ok}
use Prim.Native.Nat.{ℕ, suc, ◌+◌, ◌-◌, ◌≤◌}
use mathlib.Core.Path.{◌≡◌, refl, ◌∙◌}
use mathlib.Core.List.{List, [], ◌∷◌}
use native.Mathlib.Omega.{arith}
use lib.ListN.{length}
use Rattle.reader.specs.declared.hear.Replay.{Replay}
use Rattle.reader.specs.declared.hear.Heard.{Heard}
use Rattle.reader.specs.Hearing.{capped, heard_of}
use Rattle.reader.specs.Reading.{Reading, followed, reading_of}
use Rattle.survey.specs.declared.survey.Counts.{Counts}
use Rattle.survey.specs.Survey.{counted_of, Course, surveyed, survey_of, Reads}
use Rattle.refusal.specs.declared.Refusal.{Refusal}

-- a course and a reading of the same records
abbrev Alike : Counts → Course → Reading → Type 0
Alike k c d = (c.replay ≡ d.replay) × (c.outcome ≡ d.outcome) × (c.counts.records ≡ capped (k.records + length d.gaps))

one_more : (a n : ℕ) → capped (capped (a + 1) + n) ≡ capped (a + suc n)
one_more a n = omega arith

none_more : (a : ℕ) → a ≤ 18446744073709551615 → a ≡ capped (a + 0)
none_more a h = omega arith

at_most : (a : ℕ) → capped a ≤ 18446744073709551615
at_most a = omega arith

heard : (rs : List (List ℕ)) (s : Replay) (k : Counts) → k.records ≤ 18446744073709551615
    → ((u : Replay) (l : Counts) → l.records ≤ 18446744073709551615 → Alike l (survey_of rs u l) (reading_of rs u))
    → (x : Result Heard Refusal) → Alike k (surveyed x s k (survey_of rs)) (followed x s (reading_of rs))
heard rs s k h rest (Ok o) =
    let u = o.reached in
    let t = rest u (counted_of k o.gap (u.folds - s.folds)) (at_most (k.records + 1)) in
    (t.0, t.1, t.2 ∙ one_more k.records (length (reading_of rs u).gaps))
heard rs s k h rest (Err x) = (refl, refl, none_more k.records h)

pub reads : Reads
unfolding survey_of reading_of
reads [] s k h = (refl, refl, none_more k.records h)
reads (r ∷ rs) s k h = heard rs s k h (λ u l i. reads rs u l i) (heard_of s r)
