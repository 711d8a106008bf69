-- What the reader makes of records by our writer, one behind the other. Assumes nothing.
use Rattle.std.specs.Prelude.{Err, Ok, Option, Result, Some, ⊤}
use Rattle.std.proofs.Common.{◌≡◌, ℕ, zero, suc, ◌+◌, ◌%◌, ◌<◌, ◌≤◌, Bool, true, false, cond, not, T, eqb, List, [], ◌∷◌, length, get_or, take, replicate, sym, refl, ap, ◌∙◌, mod-lt, arith, length-take, get_or-take, ne_eqb}
use mathlib.Core.Bool.{false≢true}
use borrow.Author.Tests.{not-true}
use lib.Ieee.Fits.{and_l, and_r}
use lib.Ieee.Bits.{is_true}
use lib.ListN.{length-replicate}
use Rattle.math.specs.Lists.{every, split}
use Rattle.math.proofs.Choice.{and_both}
use Rattle.event_log.specs.declared.event.Event.{Event}
use Rattle.event_log.specs.Format.{next, record_of, records_from}
use Rattle.event_log.specs.Writing.{is_long, is_backward, may_be_logged}
use Rattle.reader.specs.declared.hear.Replay.{Replay}
use Rattle.reader.specs.declared.hear.Played.{Played}
use Rattle.reader.specs.Hearing.{capped, gap_of, played_of, further, heard_of}
use Rattle.reader.specs.Reading.{Reading, followed, reading_of}
use Rattle.reader.specs.Promises.{is_f32}
use Rattle.reader.proofs.Counting.{gap-next}
use Rattle.reader.proofs.Recorded.{hears-recorded}
use Rattle.refusal.specs.declared.Refusal.{Refusal}
use Rattle.refusal.specs.Refusing.{done}

-- a gap before the first of n records, and none before the others
abbrev pub gap_then : ℕ → ℕ → List ℕ
gap_then g zero = []
gap_then g (suc n) = g ∷ replicate n 0

-- the last of n numbers, from one on
abbrev pub last_of : ℕ → ℕ → Option ℕ → Option ℕ
last_of number zero l = l
last_of number (suc n) l = Some ((number + n) % 65536)

-- what was missing before the first record, or what is missing from it on
abbrev pub since : List ℕ → ℕ → ℕ → ℕ
since [] a b = a
since (g ∷ gs) a b = b

-- a reading of m records by our writer, from a number on, with a gap g before them
abbrev pub Follows : ℕ → ℕ → Replay → ℕ → Reading → Type 0
Follows m number s g c =
    (c.gaps ≡ take (length c.gaps) (gap_then g m))
    × (c.replay.missing ≡ since c.gaps s.missing (capped (s.missing + g)))
    × (c.outcome ≡ done → (length c.gaps ≡ m) × (c.replay.last ≡ last_of number m s.last))

is_finished : Result ⊤ Refusal → Bool
is_finished (Ok tt) = true
is_finished (Err r) = false

-- what was missing stays, with no gap more
stays : (gs : List ℕ) (n : ℕ) → since gs (capped n) (capped (capped n + 0)) ≡ capped n
stays [] n = refl
stays (g ∷ gs) n = omega arith

front-again : (m n : ℕ) → take n (gap_then 0 m) ≡ take n (replicate m 0)
front-again zero n = refl
front-again (suc m) n = refl

last_on : (number m : ℕ) → number < 65536 → last_of (next number) m (Some number) ≡ Some ((number + m) % 65536)
last_on number zero h = ap Some (omega arith)
last_on number (suc m) h = ap Some (omega arith)

one : (m number : ℕ) (s : Replay) (g : ℕ) (p : Result Played Refusal) (rest : Replay → Reading) → number < 65536
    → ((u : Replay) → u.last ≡ Some number → Follows m (next number) u 0 (rest u))
    → Follows (suc m) number s g (followed (further p s number g) s rest)
unfolding is_finished
one m number s g (Err r) rest N h = (refl, refl, λ q. absurd (false≢true (ap is_finished q)))
one m number s g (Ok o) rest N h =
    let v : Replay = record { tween = o.tween; last = Some number; missing = capped (s.missing + g); folds = capped (s.folds + o.folds) } in
    let i = h v refl in
    (ap (λ (l : List ℕ). g ∷ l) (i.0 ∙ front-again m (length (rest v).gaps)), i.1 ∙ stays (rest v).gaps (s.missing + g), λ q. (ap suc (i.2 q).0, (i.2 q).1 ∙ last_on number m N))

pub follows : (es : List Event) (number : ℕ) (s : Replay) (g : ℕ) → T (every is_f32 es) → T (every may_be_logged es) → number < 65536 → gap_of s.last number ≡ g → (g ≡ 65535 → ⊥)
    → Follows (length es) number s g (reading_of (split 8 (length es) (records_from number es)) s)
unfolding records_from split reading_of
follows [] number s g F L N G new = (refl, refl, λ q. (refl, refl))
follows (e ∷ es) number s g F L N G new =
    let fits = and_l (is_f32 e) (every is_f32 es) F in
    let here = is_true (may_be_logged e) (and_l (may_be_logged e) (every may_be_logged es) L) in
    let short = not-true (is_long e) (and_both (not (is_long e)) (not (is_backward e)) here).0 in
    let heard : heard_of s (record_of number e) ≡ further (played_of s.tween e) s number g =
    hears-recorded number N s e fits short (λ q. new (sym G ∙ q)) ∙ ap (further (played_of s.tween e) s number) G
    in
    rw heard
    (one (length es) number s g (played_of s.tween e) (reading_of (split 8 (length es) (records_from (next number) es))) N (λ u q.
    follows es (next number) u 0 (and_r (is_f32 e) (every is_f32 es) F) (and_r (may_be_logged e) (every may_be_logged es) L) (mod-lt (number + 1) (omega arith)) (ap (λ (l : Option ℕ). gap_of l (next number)) q ∙ gap-next number N) (λ z. omega (arith, z))))

zeros : (n j : ℕ) → get_or (replicate {A = ℕ} n 0) j 0 ≡ 0
zeros zero j = refl
zeros (suc n) zero = refl
zeros (suc n) (suc j) = zeros n j

length-gaps : (g m : ℕ) → length (gap_then g m) ≡ m
length-gaps g zero = refl
length-gaps g (suc m) = ap suc (length-replicate m 0)

place : (g m j : ℕ) → j < m → get_or (gap_then g m) j 0 ≡ cond (eqb j 0) g 0
place g zero j h = absurd (omega arith)
place g (suc m) zero h = refl
place g (suc m) (suc j) h = zeros m j ∙ (rw (ne_eqb (suc j) 0 (λ e. omega (arith, e))) refl)

pub no_gap : (b : Bool) → ◌≡◌ {A = ℕ} (cond b 0 0) 0
no_gap true = refl
no_gap false = refl

-- the gaps of a reading, one by one, and how many they are
module _ (m number : ℕ) (s : Replay) (g : ℕ) (c : Reading) (f : Follows m number s g c) where
  pub few : length c.gaps ≤ m
  few = omega (arith, ap length f.0, length-take (length c.gaps) (gap_then g m), length-gaps g m)

  pub each : (j : ℕ) → j < length c.gaps → get_or c.gaps j 0 ≡ cond (eqb j 0) g 0
  each j h = ap (λ (l : List ℕ). get_or l j 0) f.0 ∙ get_or-take (length c.gaps) (gap_then g m) j 0 h ∙ place g m j (omega (arith, few))
