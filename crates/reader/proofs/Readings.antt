-- How a reading stands after its first i records, and how it goes on and ends from there. Assumes nothing.
use Rattle.std.specs.Prelude.{Err, Ok, Result, ⊤}
use Rattle.std.proofs.Common.{◌≡◌, ℕ, suc, ◌+◌, ◌*◌, ◌/◌, ◌%◌, ◌<◌, ◌≤◌, List, [], ◌∷◌, ◌++◌, length, take, drop, set, refl, ap, ◌∙◌, append_assoc, append-nil, arith, length-drop, length-set}
use lib.Seq.{drop-length}
use Rattle.math.specs.Lists.{split}
use Rattle.math.proofs.Parts.{split-next}
use Rattle.refusal.specs.declared.Refusal.{Refusal}
use Rattle.steps.specs.Course.{over}
use Rattle.steps.proofs.Fronts.{Written, more}
use Rattle.reader.specs.declared.hear.Replay.{Replay}
use Rattle.reader.specs.Records.{records_of}
use Rattle.reader.specs.Hearing.{heard_of}
use Rattle.reader.specs.Reading.{Reading, ended, reading_of, answer_of}
use Rattle.refusal.specs.Refusing.{done}

-- the record at place i, and those behind it
pub records-next : (bytes : List ℕ) (i : ℕ) → i < length bytes / 8 → records_of (drop (i * 8) bytes) ≡ take 8 (drop (i * 8) bytes) ∷ records_of (drop ((i + 1) * 8) bytes)
records-next bytes i h =
    let behind : i * 8 + 8 ≡ (i + 1) * 8 = omega arith in
    let many : length (drop (i * 8) bytes) / 8 ≡ suc (length (drop ((i + 1) * 8) bytes) / 8) = omega (arith, length-drop (i * 8) bytes, length-drop ((i + 1) * 8) bytes) in
    rw (many, split-next 8, behind) refl

-- gaps that come before those of a reading
abbrev behind : List ℕ → Reading → Reading
behind front c = record { gaps = front ++ c.gaps; replay = c.replay; outcome = c.outcome }

pub record Reached (bytes gaps₀ : List ℕ) (s₀ : Replay) (gaps : List ℕ) (s : Replay) (i : ℕ) : Type 0 where
  pub front : List ℕ
  pub gaps-are : Written front i gaps gaps₀
  pub reading-is : reading_of (records_of bytes) s₀ ≡ behind front (reading_of (records_of (drop (i * 8) bytes)) s)
  pub gaps-long : length gaps ≡ length gaps₀
  pub few : i * 8 ≤ length bytes

module _ (bytes gaps₀ : List ℕ) (s₀ : Replay) where
  pub begins : Reached bytes gaps₀ s₀ gaps₀ s₀ 0
  begins = record { front = []; gaps-are = (refl, refl); reading-is = refl; gaps-long = refl; few = omega arith }

  module _ (whole : length bytes % 8 ≡ 0) (room : length bytes / 8 ≤ length gaps₀) (gaps : List ℕ) (s : Replay) (i : ℕ) (r : Reached bytes gaps₀ s₀ gaps s i) where
    -- a record that is left is whole
    pub here : i < length bytes / 8 → i * 8 + 8 ≤ length bytes
    here h = omega arith

    -- and has a place in the list
    pub place : i < length bytes / 8 → i < length gaps
    place h = omega (arith, r.gaps-long)

    pub goes_on : (g : ℕ) (u : Replay) → i < length bytes / 8 → heard_of s (take 8 (drop (i * 8) bytes)) ≡ Ok (record { gap = g; reached = u }) → Reached bytes gaps₀ s₀ (set gaps i g) u (i + 1)
    unfolding reading_of
    goes_on g u h e =
        record {
          front = r.front ++ (g ∷ []);
          gaps-are = more 0 r.front i gaps gaps₀ g (omega (arith, place h, r.gaps-long)) r.gaps-are;
          reading-is = r.reading-is ∙ (rw (records-next bytes i h, e, append_assoc));
          gaps-long = length-set gaps i g ∙ r.gaps-long;
          few = omega (arith, here h);
        }

    -- the reading ends here
    ends : (o : Result ⊤ Refusal) → reading_of (records_of (drop (i * 8) bytes)) s ≡ ended s o
        → (record { reached = s; done = i; outcome = o } ≡ answer_of (reading_of (records_of bytes) s₀)) × (gaps ≡ over (reading_of (records_of bytes) s₀).gaps gaps₀)
    ends o e = rw (r.reading-is, e, append-nil r.front, r.gaps-are.0) (refl, r.gaps-are.1)

    pub stops : (x : Refusal) → i < length bytes / 8 → heard_of s (take 8 (drop (i * 8) bytes)) ≡ Err x
        → (record { reached = s; done = i; outcome = Err x } ≡ answer_of (reading_of (records_of bytes) s₀)) × (gaps ≡ over (reading_of (records_of bytes) s₀).gaps gaps₀)
    unfolding reading_of
    stops x h e = ends (Err x) (rw (records-next bytes i h, e))

    pub finishes : length bytes / 8 ≤ i
        → (record { reached = s; done = i; outcome = done } ≡ answer_of (reading_of (records_of bytes) s₀)) × (gaps ≡ over (reading_of (records_of bytes) s₀).gaps gaps₀)
    unfolding reading_of split
    finishes h = let e : i * 8 ≡ length bytes = omega (arith, r.few) in ends done (ap (λ (n : ℕ). reading_of (records_of (drop n bytes)) s) e ∙ (rw (drop-length bytes)))
