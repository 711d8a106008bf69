-- Demand 3 of a replay: its tween and its folds are those of the history that its records tell of. Assumes nothing.
use Rattle.std.specs.Prelude.{Err, Ok, Result}
use Rattle.std.proofs.Common.{◌≡◌, ℕ, zero, suc, ◌+◌, ◌/◌, ◌%◌, true, false, eqb, leb, ◌⊎◌, List, [], ◌∷◌, map, length, get_or, take, drop, replicate, sym, refl, ap, ◌∙◌, inl, inr, arith}
use mathlib.Core.Bool.{false≢true}
use Rattle.math.specs.Rounded.{whole_f}
use Rattle.math.proofs.Choice.{by-test}
use Rattle.refusal.specs.declared.Refusal.{Refusal}
use Rattle.refusal.specs.declared.Refusal.TheVariants.{RecordBreaksLimit, OutputTooShort, WrongMark, UnknownVersion, WrongLength, WrongRecord}
use Rattle.tween.specs.declared.record.Tween.{Tween}
use Rattle.tween.specs.declared.answers.Updated.{Updated}
use Rattle.tween.specs.Limits.{within_of}
use Rattle.tween.specs.Calls.{pause_of, resume_of}
use Rattle.tween.specs.Update.{update_of}
use Rattle.history.specs.History.{Act, step, pause, resume, Past, updated_by, changed_to, after, after_all, fresh}
use Rattle.history.proofs.Demand.{demand-3}
use Rattle.event_log.specs.declared.event.Event.{Event}
use Rattle.event_log.specs.Writing.{number_at}
use Rattle.event_log.specs.Format.{mark, version, starts_with}
use Rattle.reader.specs.declared.hear.Replay.{Replay}
use Rattle.reader.specs.declared.hear.Played.{Played}
use Rattle.reader.specs.declared.hear.Heard.{Heard}
use Rattle.reader.specs.Records.{records_of, is_wrong, event_in}
use Rattle.reader.specs.Hearing.{capped, gap_of, is_repeat, by_update, by_change, played_of, further, heard_of}
use Rattle.reader.specs.Reading.{Reading, stopped, followed, reading_of, read_on_of, begin_of, replay_of}
use Rattle.reader.specs.Promises.{event_of, without_repeats, ReplayDemand3}
use Rattle.reader.proofs.Heard.{is_done}
use Rattle.refusal.specs.declared.rejected.Rejected.{Rejected}

-- what a call came to
tween_in : Tween → Result Played Refusal → Tween
tween_in t (Ok o) = o.tween
tween_in t (Err r) = t

folds_in : Result Played Refusal → ℕ
folds_in (Ok o) = o.folds
folds_in (Err r) = 0

-- a history after an act, and the tween after the call that tells of it
module _ (h : Past) (u : Tween) (k : ℕ) where
  abbrev Agrees : Past → Type 0
  Agrees p = (p.tween ≡ u) × (p.made ≡ h.made + k)

  updated-agrees : (n : ℕ) (a : Result Updated (Rejected Tween)) → by_update a ≡ Ok (record { tween = u; folds = k }) → Agrees (updated_by h n a)
  unfolding tween_in folds_in
  updated-agrees n (Ok o) e = (ap (tween_in u) e, ap (λ (p : Result Played Refusal). h.made + folds_in p) e)
  updated-agrees n (Err o) e = absurd (false≢true (ap is_done e))

  changed-agrees : (a : Result Tween (Rejected Tween)) → by_change a ≡ Ok (record { tween = u; folds = k }) → Agrees (changed_to h a)
  unfolding tween_in folds_in
  changed-agrees (Ok v) e = (ap (tween_in u) e, omega (arith, ap folds_in e))
  changed-agrees (Err o) e = absurd (false≢true (ap is_done e))

  agrees : (a : Act) → played_of h.tween (event_of a) ≡ Ok (record { tween = u; folds = k }) → Agrees (after h a)
  unfolding played_of
  agrees (step n) e = updated-agrees n (update_of h.tween (whole_f n)) e
  agrees pause e = changed-agrees (pause_of h.tween) e
  agrees resume e = changed-agrees (resume_of h.tween) e

-- what a record that was read can be: a repeat, which leaves all as it was, or one whose call was accepted
abbrev Kind : Replay → List ℕ → Result Heard Refusal → Type 0
Kind s r (Ok o) =
    let u = o.reached in
    ((is_repeat o.gap ≡ true) × (u ≡ s))
    ⊎ ((is_repeat o.gap ≡ false) × (k : ℕ) × (played_of s.tween (event_in r) ≡ Ok (record { tween = u.tween; folds = k })) × (u.folds ≡ capped (s.folds + k)))
Kind s r (Err x) = Unit {0}

further-kind : (s : Replay) (r : List ℕ) (n g : ℕ) (p : Result Played Refusal) → is_repeat g ≡ false → played_of s.tween (event_in r) ≡ p → Kind s r (further p s n g)
further-kind s r n g (Ok o) b e = inr (b, o.folds, e, refl)
further-kind s r n g (Err x) b e = tt

heard-kind : (s : Replay) (r : List ℕ) → Kind s r (heard_of s r)
unfolding heard_of
heard-kind s r =
    let n = number_at r 0 in
    let g = gap_of s.last n in
    by-test (Kind s r) (is_wrong r) (Err WrongRecord) _ (λ _. tt) (λ _.
    by-test (Kind s r) (is_repeat g) (Ok (record { gap = g; reached = s })) _ (λ b. inl (b, refl)) (λ b. further-kind s r n g (played_of s.tween (event_in r)) b refl))

-- the records that were read, without the repeats, tell of the acts: then so do the tween and the folds, whatever is missing
abbrev Told : List (List ℕ) → List Act → Past → Reading → Type 0
Told rs acts h c =
    map event_in (without_repeats rs c.gaps) ≡ map event_of acts
    → (c.replay.tween ≡ (after_all h acts).tween) × (c.replay.folds ≡ capped (after_all h acts).made)

none_read : (rs : List (List ℕ)) → without_repeats rs [] ≡ []
none_read [] = refl
none_read (r ∷ rs) = refl

stopped-told : (rs : List (List ℕ)) (acts : List Act) (s : Replay) (h : Past) (c : Reading) → c.gaps ≡ [] → c.replay ≡ s → s.tween ≡ h.tween → s.folds ≡ capped h.made → Told rs acts h c
unfolding after_all
stopped-told rs [] s h c e q t f _ = rw q (t, f)
stopped-told rs (a ∷ acts) s h c e q t f z = absurd (omega (arith, ap length (rw (e, none_read rs) at z)))

read_told : (r : List ℕ) (rs : List (List ℕ)) (acts : List Act) (s : Replay) (h : Past) (g : ℕ) (u : Replay) (c : Reading) → Kind s r (Ok (record { gap = g; reached = u })) → s.tween ≡ h.tween → s.folds ≡ capped h.made
    → ((more : List Act) (p : Past) → u.tween ≡ p.tween → u.folds ≡ capped p.made → Told rs more p c)
    → Told (r ∷ rs) acts h (record { gaps = g ∷ c.gaps; replay = c.replay; outcome = c.outcome })
unfolding after_all
read_told r rs acts s h g u c (inl (b, q)) t f rest e = rest acts h (ap (λ (v : Replay). v.tween) q ∙ t) (ap (λ (v : Replay). v.folds) q ∙ f) (rw b at e)
read_told r rs [] s h g u c (inr (b, k, p, q)) t f rest e = absurd (omega (arith, ap length (rw b at e)))
read_told r rs (a ∷ acts) s h g u c (inr (b, k, p, q)) t f rest e =
    let e : event_in r ∷ map event_in (without_repeats rs c.gaps) ≡ map event_of (a ∷ acts) = rw b at e in
    let event : event_in r ≡ event_of a = ap (λ (l : List Event). get_or l 0 (event_of a)) e in
    let played : played_of h.tween (event_of a) ≡ Ok (record { tween = u.tween; folds = k }) = rw (t, event) at p in
    let i = agrees h u.tween k a played in
    rest acts (after h a) (sym i.0) (q ∙ omega (arith, f, i.1)) (ap (drop 1) e)

heard-told : (r : List ℕ) (rs : List (List ℕ)) (acts : List Act) (s : Replay) (h : Past) (x : Result Heard Refusal) → Kind s r x → s.tween ≡ h.tween → s.folds ≡ capped h.made
    → ((more : List Act) (u : Replay) (p : Past) → u.tween ≡ p.tween → u.folds ≡ capped p.made → Told rs more p (reading_of rs u))
    → Told (r ∷ rs) acts h (followed x s (reading_of rs))
heard-told r rs acts s h (Ok o) k t f rest = read_told r rs acts s h o.gap o.reached (reading_of rs o.reached) k t f (λ more. rest more o.reached)
heard-told r rs acts s h (Err x) k t f rest = stopped-told (r ∷ rs) acts s h (stopped s x) refl refl t f

told : (rs : List (List ℕ)) (acts : List Act) (s : Replay) (h : Past) → s.tween ≡ h.tween → s.folds ≡ capped h.made → Told rs acts h (reading_of rs s)
unfolding reading_of
told [] acts s h t f = stopped-told [] acts s h (reading_of [] s) refl refl t f
told (r ∷ rs) acts s h t f = heard-told r rs acts s h (heard_of s r) (heard-kind s r) t f (λ more u p. told rs more u p)

-- with no repeat they are all the records that were read
pub all_read : (rs : List (List ℕ)) (n : ℕ) → without_repeats rs (replicate n 0) ≡ take n rs
all_read [] zero = refl
all_read [] (suc n) = refl
all_read (r ∷ rs) zero = refl
all_read (r ∷ rs) (suc n) = ap (λ (l : List (List ℕ)). r ∷ l) (all_read rs n)

-- and so for the whole call
log-told : (u : Tween) (log list : List ℕ) (acts : List Act) → Told (records_of (drop 5 log)) acts (fresh u) (replay_of u log list)
unfolding replay_of read_on_of
log-told u log list acts =
    let rs = records_of (drop 5 log) in
    let T : Reading → Type 0 = Told rs acts (fresh u) in
    let no : (r : Refusal) → T (stopped (begin_of u) r) = λ r. stopped-told rs acts (begin_of u) (fresh u) (stopped (begin_of u) r) refl refl refl refl in
    by-test T (within_of u) _ _ (λ _.
    by-test T (starts_with mark log) _ _ (λ _.
    by-test T (starts_with version (drop 3 log)) _ _ (λ _.
    by-test T (eqb (length (drop 5 log) % 8) 0) _ _ (λ _.
    by-test T (leb (length (drop 5 log) / 8) (length list)) _ _ (λ _. told rs acts (begin_of u) (fresh u) refl refl)
    (λ _. no OutputTooShort)) (λ _. no WrongLength)) (λ _. no UnknownVersion)) (λ _. no WrongMark)) (λ _. no RecordBreaksLimit)

pub replay-demand-3 : ReplayDemand3
replay-demand-3 t u D W s settings reset log list acts small e _ short =
    let c = replay_of u log list in
    let h = after_all (fresh u) acts in
    let i = log-told u log list acts e in
    let made : h.made ≡ c.replay.folds = omega (arith, i.1, short) in
    rw (i.0, sym made) (demand-3 t u D W s settings reset acts small)
