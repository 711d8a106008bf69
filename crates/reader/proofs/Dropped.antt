-- What the reader counts where records were dropped from a log. Assumes nothing.
use Rattle.std.specs.Prelude.{Err, None, Ok, Option, Result, Some, ⊤}
use Rattle.std.proofs.Common.{◌≡◌, ℕ, zero, suc, ◌+◌, ◌-◌, ◌%◌, ◌<◌, ◌≤◌, Bool, true, false, cond, T, eqb, ltb, List, [], ◌∷◌, ◌++◌, length, get_or, refl, ap, ◌∙◌, mod-lt, mod-eq_of_lt, zero-add, arith, length-append, get_or-append-add, ltb-false, ltb-true, le-ltb, lt-ltb, eq-eqb, ne_eqb, eqb-true}
use borrow.Author.Tests.{eqb-false}
use lib.ListN.{get_or-append}
use Rattle.math.specs.Lists.{every, split}
use Rattle.event_log.specs.declared.event.Event.{Event}
use Rattle.event_log.specs.Format.{records_from}
use Rattle.event_log.specs.Writing.{may_be_logged}
use Rattle.reader.specs.declared.hear.Replay.{Replay}
use Rattle.reader.specs.Hearing.{capped, gap_of}
use Rattle.reader.specs.Reading.{Reading, reading_of, joined_by}
use Rattle.reader.specs.Promises.{is_f32}
use Rattle.reader.proofs.Counting.{gap-lost}
use Rattle.reader.proofs.Parts.{reads_on}
use Rattle.reader.proofs.Followed.{since, Follows, last_of, follows, few, each, no_gap}
use Rattle.refusal.specs.declared.Refusal.{Refusal}

-- k are missing before the record at place i
abbrev pub Missing : ℕ → ℕ → Reading → Type 0
Missing i k c = ((j : ℕ) → j < length c.gaps → get_or c.gaps j 0 ≡ cond (eqb j i) k 0) × (c.replay.missing ≡ cond (ltb i (length c.gaps)) k 0)

-- j is place i exactly when it is 0 places behind it
same_place : (j i : ℕ) → i ≤ j → eqb (j - i) 0 ≡ eqb j i
same_place j i a = go (eqb j i) refl
  where
    go : (b : Bool) → eqb j i ≡ b → eqb (j - i) 0 ≡ eqb j i
    go true h = rw h (eq-eqb (j - i) 0 (omega (arith, eqb-true j i h)))
    go false h = rw h (ne_eqb (j - i) 0 (λ e. eqb-false j i h (omega (arith, e))))

none_yet : (gs : List ℕ) → since gs 0 (capped (0 + 0)) ≡ 0
none_yet [] = refl
none_yet (g ∷ gs) = refl

module _ (i k : ℕ) (first : Reading) (s : Replay) (from : s.missing ≡ 0) (f : Follows i 0 s 0 first) where
  before-any : (j : ℕ) → j < length first.gaps → get_or first.gaps j 0 ≡ cond (eqb j i) k 0
  before-any j h = each i 0 s 0 first f j h ∙ no_gap (eqb j 0) ∙ (rw (ne_eqb j i (λ e. omega (arith, e, few i 0 s 0 first f))) refl)

  missed : first.replay.missing ≡ 0
  missed = f.1 ∙ ap (λ (n : ℕ). since first.gaps n (capped (n + 0))) from ∙ none_yet first.gaps

  -- the reading stopped before the records that were dropped
  stopped-before : Missing i k first
  stopped-before = (before-any, missed ∙ (rw (le-ltb i (length first.gaps) (few i 0 s 0 first f)) refl))

  -- or went on behind them
  module _ (m number : ℕ) (last : Reading) (full : length first.gaps ≡ i) (h : Follows m number first.replay k last) (most : k ≤ 65534) where
    abbrev both : Reading
    both = record { gaps = first.gaps ++ last.gaps; replay = last.replay; outcome = last.outcome }

    placed : (j : ℕ) → j < length both.gaps → (b : Bool) → ltb j i ≡ b → get_or both.gaps j 0 ≡ cond (eqb j i) k 0
    placed j l true q = let a : j < length first.gaps = omega (arith, full, ltb-true j i q) in get_or-append first.gaps last.gaps 0 j a ∙ before-any j a
    placed j l false q =
        let a = ltb-false j i q in
        let n = j - i in
        let e : j ≡ length first.gaps + n = omega (arith, full) in
        let w : n < length last.gaps = omega (arith, length-append first.gaps last.gaps) in
        ap (λ (x : ℕ). get_or both.gaps x 0) e
        ∙ get_or-append-add first.gaps last.gaps n 0
        ∙ each m number first.replay k last h n w
        ∙ ap (λ (t : Bool). cond t k 0) (same_place j i a)

    missed-there : (gs : List ℕ) → last.gaps ≡ gs → last.replay.missing ≡ cond (ltb i (length both.gaps)) k 0
    missed-there [] q =
        h.1
        ∙ ap (λ (l : List ℕ). since l first.replay.missing (capped (first.replay.missing + k))) q
        ∙ missed
        ∙ (rw (le-ltb i (length both.gaps) (omega (arith, full, length-append first.gaps last.gaps, ap length q))) refl)
    missed-there (x ∷ gs) q =
        let e : capped (first.replay.missing + k) ≡ k = omega (arith, missed) in
        h.1
        ∙ ap (λ (l : List ℕ). since l first.replay.missing (capped (first.replay.missing + k))) q
        ∙ e
        ∙ (rw (lt-ltb i (length both.gaps) (omega (arith, full, length-append first.gaps last.gaps, ap length q))) refl)

    went_on : Missing i k both
    went_on = (λ j l. placed j l (ltb j i) refl, missed-there last.gaps refl)

module _ (k : ℕ) (some : 1 ≤ k) (most : k ≤ 65534) (ds qs : List Event) (fd : T (every is_f32 ds)) (fq : T (every is_f32 qs)) (D : T (every may_be_logged ds)) (Q : T (every may_be_logged qs)) (middle : 1 ≤ length ds) (s : Replay) (from : s.missing ≡ 0) (unread : s.last ≡ None) where
  -- the log without the records between ds and qs
  abbrev records : List (List ℕ)
  records = split 8 (length ds) (records_from 0 ds) ++ split 8 (length qs) (records_from ((length ds + k) % 65536) qs)

  first-follows : Follows (length ds) 0 s 0 (reading_of (split 8 (length ds) (records_from 0 ds)) s)
  first-follows = follows ds 0 s 0 fd D (omega arith) (ap (λ (l : Option ℕ). gap_of l 0) unread) (λ z. omega (arith, z))

  gap-there : (n : ℕ) (l : Option ℕ) → l ≡ last_of 0 n None → 1 ≤ n → gap_of l ((n + k) % 65536) ≡ k
  gap-there zero l q h = absurd (omega arith)
  gap-there (suc n) l q h =
      let e : (suc n + k) % 65536 ≡ (n + suc k) % 65536 = ap (λ (x : ℕ). x % 65536) (omega arith) in
      ap (λ (x : Option ℕ). gap_of x ((suc n + k) % 65536)) (q ∙ ap (λ (x : ℕ). Some (x % 65536)) (zero-add n))
      ∙ ap (gap_of (Some (n % 65536))) e
      ∙ gap-lost n k
      ∙ mod-eq_of_lt (omega arith)

  counted : (o : Result ⊤ Refusal) → let c = reading_of (split 8 (length ds) (records_from 0 ds)) s in c.outcome ≡ o
      → Missing (length ds) k (joined_by o c (reading_of (split 8 (length qs) (records_from ((length ds + k) % 65536) qs))))
  counted (Err r) e = stopped-before (length ds) k (reading_of (split 8 (length ds) (records_from 0 ds)) s) s from first-follows
  counted (Ok tt) e =
      let c = reading_of (split 8 (length ds) (records_from 0 ds)) s in
      let f = first-follows.2 e in
      let n = (length ds + k) % 65536 in
      went_on (length ds) k c s from first-follows (length qs) n (reading_of (split 8 (length qs) (records_from n qs)) c.replay) f.0
      (follows qs n c.replay k fq Q (mod-lt (length ds + k) (omega arith)) (gap-there (length ds) c.replay.last (f.1 ∙ ap (last_of 0 (length ds)) unread) middle) (λ z. omega (arith, z)))
      most

  pub counts-between : Missing (length ds) k (reading_of records s)
  counts-between = rw (reads_on (split 8 (length ds) (records_from 0 ds)) (split 8 (length qs) (records_from ((length ds + k) % 65536) qs)) s) (counted (reading_of (split 8 (length ds) (records_from 0 ds)) s).outcome refl)
