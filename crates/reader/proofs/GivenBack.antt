-- A log of a run's accepted calls gives back the tween that the run left. Assumes nothing.
use Rattle.std.specs.Prelude.{Err, Ok, Result, Some}
use Rattle.std.proofs.Common.{◌≡◌, ℕ, ◌+◌, ◌*◌, ◌/◌, ◌<◌, ◌≤◌, Bool, true, false, T, List, [], ◌∷◌, ◌++◌, length, take, drop, replicate, sym, refl, ap, ◌∙◌, mod-lt, zero-add, arith, take_at}
use mathlib.Core.Bool.{false≢true}
use Rattle.math.specs.Lists.{every, split}
use Rattle.math.proofs.Choice.{by-test}
use lib.Ieee.{Float, lt}
use lib.Ieee.Fits.{and_l, and_r}
use lib.Ieee.Bits.{is_true}
use borrow.Author.Tests.{not-true}
use Rattle.math.specs.Rounded.{top_f}
use Rattle.tween.specs.declared.record.Tween.{Tween}
use Rattle.tween.specs.Limits.{within_of}
use Rattle.tween.specs.Update.{update_of}
use Rattle.event_log.specs.declared.event.Event.{Event}
use Rattle.event_log.specs.declared.event.Event.TheVariants.{Step, Pause, Resume, Reset}
use Rattle.event_log.specs.Format.{next, record_of, records_from, log_of}
use Rattle.event_log.specs.Writing.{wrote, head_in, is_long, is_backward, may_be_logged, records_in}
use Rattle.event_log.proofs.Logs.{length-records, length-log}
use Rattle.event_log.proofs.Written.{writes-log}
use Rattle.reader.specs.declared.hear.Replay.{Replay}
use Rattle.reader.specs.declared.hear.Played.{Played}
use Rattle.reader.specs.Hearing.{capped, gap_of, by_update, played_of, further, heard_of}
use Rattle.reader.specs.Reading.{reading_of, begin_of, replay_of}
use Rattle.reader.specs.Promises.{RunLeft, left_with, left_by, is_f32, is_forward, GivesBack}
use Rattle.reader.proofs.Counting.{gap-next}
use Rattle.reader.proofs.Heard.{is_done}
use Rattle.reader.proofs.Recorded.{below_top, hears-recorded}
use Rattle.reader.proofs.Refusals.{reads, reads-log}
use Rattle.refusal.specs.declared.Refusal.{Refusal}
use Rattle.refusal.specs.Refusing.{done}

-- an update that is too long is not accepted
long-refused : (t : Tween) (x : Float) → lt top_f x ≡ true → is_done (by_update (update_of t x)) ≡ false
unfolding update_of
long-refused t x h = by-test (λ a. is_done (by_update a) ≡ false) (within_of t) _ _ (λ _. rw h refl) (λ _. refl)

accepted-by : (t : Tween) (x : Float) (u : Tween) (k : ℕ) (b : Bool) → by_update (update_of t x) ≡ Ok (record { tween = u; folds = k }) → lt top_f x ≡ b → b ≡ false
accepted-by t x u k true h e = absurd (false≢true (sym (long-refused t x e) ∙ ap is_done h))
accepted-by t x u k false h e = refl

accepted-short : (t : Tween) (e : Event) (u : Tween) (k : ℕ) → played_of t e ≡ Ok (record { tween = u; folds = k }) → is_long e ≡ false
unfolding played_of
accepted-short t (Step x) u k h = accepted-by t x u k (lt top_f x) h refl
accepted-short t Pause u k h = below_top
accepted-short t Resume u k h = below_top
accepted-short t Reset u k h = below_top

-- a reading of the records of a run's calls, from number n on
abbrev Back : RunLeft → ℕ → Replay → Type 0
Back run n s =
    let c = reading_of (split 8 (length run.calls) (records_from n run.calls)) s in
    (c.gaps ≡ replicate (length run.calls) 0)
    × (c.outcome ≡ done)
    × (c.replay.tween ≡ run.tween)
    × (c.replay.missing ≡ s.missing)
    × (c.replay.folds ≡ capped (s.folds + run.folds))

-- how far the replay has come behind an accepted call, with no gap before it
abbrev then : Replay → ℕ → Tween → ℕ → Replay
then s n u k = record { tween = u; last = Some n; missing = capped (s.missing + 0); folds = capped (s.folds + k) }

back_on : (e : Event) (es : List Event) (n : ℕ) (s : Replay) (p : Result Played Refusal) → played_of s.tween e ≡ p → n < 65536 → T (is_f32 e) → gap_of s.last n ≡ 0 → s.missing ≤ 18446744073709551615
    → ((m : ℕ) (v : Replay) → m < 65536 → gap_of v.last m ≡ 0 → v.missing ≤ 18446744073709551615 → v.folds ≤ 18446744073709551615 → Back (left_by es v.tween) m v)
    → s.folds ≤ 18446744073709551615 → Back (left_with p e s.tween (left_by es)) n s
unfolding records_from split reading_of
back_on e es n s (Err r) P N F z a rest b = rest n s N z a b
back_on e es n s (Ok o) P N F z a rest b =
    let v = then s n o.tween o.folds in
    let run = left_by es o.tween in
    let heard : heard_of s (record_of n e) ≡ Ok (record { gap = 0; reached = v }) =
    hears-recorded n N s e F (accepted-short s.tween e o.tween o.folds P) (λ q. omega (arith, z, q))
    ∙ ap (λ (x : Result Played Refusal). further x s n (gap_of s.last n)) P
    ∙ ap (further (Ok o) s n) z
    in
    let i = rest (next n) v (mod-lt (n + 1) (omega arith)) (gap-next n N) (omega arith) (omega arith) in
    rw heard (ap (λ (l : List ℕ). 0 ∷ l) i.0, i.1, i.2, i.3 ∙ omega arith, i.4 ∙ omega arith)

back : (es : List Event) (n : ℕ) (s : Replay) → T (every is_f32 es) → n < 65536 → gap_of s.last n ≡ 0 → s.missing ≤ 18446744073709551615 → s.folds ≤ 18446744073709551615 → Back (left_by es s.tween) n s
unfolding left_by records_from split reading_of
back [] n s F N z a b = (refl, refl, refl, refl, omega arith)
back (e ∷ es) n s F N z a b =
    back_on e es n s (played_of s.tween e) refl N (and_l (is_f32 e) (every is_f32 es) F) z a (λ m v. back es m v (and_r (is_f32 e) (every is_f32 es) F)) b

-- the writer takes each call that was accepted
taken : (e : Event) (es : List Event) (t : Tween) (p : Result Played Refusal) → played_of t e ≡ p → T (is_forward e) → ((u : Tween) → T (every may_be_logged (left_by es u).calls)) → T (every may_be_logged (left_with p e t (left_by es)).calls)
taken e es t (Err r) P F rest = rest t
taken e es t (Ok o) P F rest = rw (accepted-short t e o.tween o.folds P, not-true (is_backward e) (is_true (is_forward e) F)) (rest o.tween)

all-taken : (es : List Event) (t : Tween) → T (every is_forward es) → T (every may_be_logged (left_by es t).calls)
unfolding left_by
all-taken [] t F = tt
all-taken (e ∷ es) t F =
    taken e es t (played_of t e) refl (and_l (is_forward e) (every is_forward es) F) (λ u. all-taken es u (and_r (is_forward e) (every is_forward es) F))

pub gives_back : GivesBack
gives_back t es buffer list W F B space room =
    let calls = (left_by es t).calls in
    let bytes = records_from 0 calls in
    let log = log_of calls in
    let n = 5 + 8 * length calls in
    let long = length-records 0 calls in
    let e : length bytes / 8 ≡ length calls = omega arith in
    let q : replay_of t log list ≡ reading_of (split 8 (length calls) bytes) (begin_of t) =
    reads-log t log list W refl refl
    ∙ reads (begin_of t) bytes list (omega arith) (omega arith)
    ∙ ap (λ (m : ℕ). reading_of (split 8 m bytes) (begin_of t)) e
    in
    let w : records_in calls (head_in buffer) ≡ wrote buffer 0 log = writes-log buffer calls (all-taken es t B) space in
    let b : take n (log ++ drop (0 + length log) buffer) ≡ log = take_at log (drop (0 + length log) buffer) n (length-log calls) in
    let i = back es 0 (begin_of t) F (omega arith) refl (omega arith) (omega arith) in
    rw (w, b, q) (ap Ok (omega (arith, length-log calls)), i.0, i.1, i.2, i.3, i.4 ∙ ap capped (zero-add (left_by es t).folds))
