-- How a survey stands after its first i records, and how it goes on and ends from there. Assumes nothing.
use Rattle.std.specs.Prelude.{Err, Ok}
use Prim.Native.Nat.{ℕ, ◌+◌, ◌-◌, ◌*◌, ◌/◌, ◌<◌, ◌≤◌}
use mathlib.Core.Path.{◌≡◌, refl, ap, ◌∙◌}
use mathlib.Core.List.{List}
use native.Mathlib.Omega.{arith}
use lib.ListN.{length, take, drop, length-drop}
use Rattle.math.specs.Lists.{split}
use Rattle.refusal.specs.declared.Refusal.{Refusal}
use Rattle.reader.specs.declared.hear.Replay.{Replay}
use Rattle.reader.specs.Records.{records_of}
use Rattle.reader.specs.Hearing.{heard_of}
use Rattle.reader.proofs.Readings.{records-next}
use Rattle.survey.specs.declared.survey.Counts.{Counts}
use Rattle.survey.specs.Survey.{counted_of, survey_of}
use Rattle.refusal.specs.Refusing.{done}

pub record Reached (bytes : List ℕ) (s₀ : Replay) (k₀ : Counts) (s : Replay) (k : Counts) (i : ℕ) : Type 0 where
  pub course-is : survey_of (records_of bytes) s₀ k₀ ≡ survey_of (records_of (drop (i * 8) bytes)) s k
  pub few : i * 8 ≤ length bytes

pub begins : (bytes : List ℕ) (s : Replay) (k : Counts) → Reached bytes s k s k 0
begins bytes s k = record { course-is = refl; few = omega arith }

module _ (bytes : List ℕ) (s₀ : Replay) (k₀ : Counts) (s : Replay) (k : Counts) (i : ℕ) (r : Reached bytes s₀ k₀ s k i) where
  pub goes_on : (g : ℕ) (u : Replay) → i < length bytes / 8 → heard_of s (take 8 (drop (i * 8) bytes)) ≡ Ok (record { gap = g; reached = u }) → Reached bytes s₀ k₀ u (counted_of k g (u.folds - s.folds)) (i + 1)
  unfolding survey_of
  goes_on g u h e = record { course-is = r.course-is ∙ (rw (records-next bytes i h, e)); few = omega arith }

  pub stops : (x : Refusal) → i < length bytes / 8 → heard_of s (take 8 (drop (i * 8) bytes)) ≡ Err x
      → survey_of (records_of bytes) s₀ k₀ ≡ record { replay = s; counts = k; outcome = Err x }
  unfolding survey_of
  stops x h e = r.course-is ∙ (rw (records-next bytes i h, e))

  pub finishes : length bytes / 8 ≤ i → survey_of (records_of bytes) s₀ k₀ ≡ record { replay = s; counts = k; outcome = done }
  unfolding survey_of split
  finishes h =
      let e : length (drop (i * 8) bytes) / 8 ≡ 0 = omega (arith, length-drop (i * 8) bytes) in
      r.course-is ∙ ap (λ (n : ℕ). survey_of (split 8 n (drop (i * 8) bytes)) s k) e
