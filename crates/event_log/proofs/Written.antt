-- What the calls write is a log, and they write nothing else. Assumes nothing.
use Rattle.std.specs.Prelude.{Err, Ok, Result}
use Rattle.std.proofs.Common.{◌≡◌, ℕ, ◌+◌, ◌-◌, ◌*◌, ◌%◌, ◌≤◌, Bool, true, false, not, T, leb, List, [], ◌∷◌, ◌++◌, length, take, drop, sym, refl, ap, ◌∙◌, append_assoc, append-nil, zero-add, arith, length-append, length-drop, drop-drop, le-leb, leb-true}
use mathlib.Core.Bool.{false≢true}
use native.Mathlib.Nat.{mod-add-mod, mul-mod_right}
use borrow.Author.Tests.{not-true}
use lib.Ieee.Fits.{and_l, and_r}
use lib.Ieee.Bits.{is_true}
use lib.Seq.{take-append_seam, drop-append-add}
use Rattle.math.specs.Lists.{every}
use Rattle.math.proofs.Choice.{by-test, and_both}
use Rattle.refusal.specs.declared.Refusal.TheVariants.{NoRoom}
use Rattle.event_log.specs.declared.event.Event.{Event}
use Rattle.event_log.specs.Format.{mark, version, head, record_of, records_from, log_of, starts_with}
use Rattle.event_log.specs.Writing.{Writing, refused, wrote, head_in, is_long, is_backward, is_whole, number_behind, record_in, may_be_logged, records_in, Keeps}
use Rattle.event_log.specs.Promises.{LogMore, WritesLog, HeadKeeps, RecordKeeps, RefusedStays}
use Rattle.event_log.proofs.Logs.{length-log, log-number, records-more}
use Rattle.event_log.proofs.Refusals.{a-head, a-record}
use Rattle.event_log.proofs.Places.{put_keeps, same-keeps}
use Rattle.refusal.specs.declared.Refusal.{Refusal}

pub head-keeps : HeadKeeps
unfolding head_in
head-keeps buffer =
    by-test (λ w. Keeps 0 5 buffer w.buffer) (leb 5 (length buffer)) (wrote buffer 0 head) (refused buffer NoRoom) (λ h. put_keeps buffer 0 head (leb-true 5 (length buffer) h)) (λ _. same-keeps 0 5 buffer)

pub record-keeps : RecordKeeps
unfolding record_in
record-keeps buffer written e =
    let log = take written buffer in
    let K : Writing → Type 0 = λ w. Keeps written 8 buffer w.buffer in
    let same = same-keeps written 8 buffer in
    by-test K (is_long e) _ _ (λ _. same) (λ _.
    by-test K (is_backward e) _ _ (λ _. same) (λ _.
    by-test K (leb written (length buffer)) _ _ (λ _.
    by-test K (starts_with mark log) _ _ (λ _.
    by-test K (starts_with version (drop 3 log)) _ _ (λ _.
    by-test K (is_whole written) _ _ (λ _.
    by-test K (leb (written + 8) (length buffer)) _ _ (λ h. put_keeps buffer written (record_of (number_behind log) e) (leb-true _ _ h))
    (λ _. same)) (λ _. same)) (λ _. same)) (λ _. same)) (λ _. same)))

is_refused : Result ℕ Refusal → Bool
is_refused (Ok n) = false
is_refused (Err r) = true

pub refused-stays : RefusedStays
unfolding record_in is_refused
refused-stays buffer written e r =
    let log = take written buffer in
    let K : Writing → Type 0 = λ w. w.answer ≡ Err r → w.buffer ≡ buffer in
    by-test K (is_long e) _ _ (λ _ _. refl) (λ _.
    by-test K (is_backward e) _ _ (λ _ _. refl) (λ _.
    by-test K (leb written (length buffer)) _ _ (λ _.
    by-test K (starts_with mark log) _ _ (λ _.
    by-test K (starts_with version (drop 3 log)) _ _ (λ _.
    by-test K (is_whole written) _ _ (λ _.
    by-test K (leb (written + 8) (length buffer)) _ _ (λ _ q. absurd (false≢true (ap is_refused q)))
    (λ _ _. refl)) (λ _ _. refl)) (λ _ _. refl)) (λ _ _. refl)) (λ _ _. refl)))

-- the number behind a log of n records
behind : (es : List Event) → number_behind (log_of es) ≡ length es % 65536
unfolding records_from
behind [] = refl
behind (x ∷ es) =
    let n = length es in
    let long = length-log (x ∷ es) in
    let at : length (log_of (x ∷ es)) - 8 ≡ 5 + 8 * n = omega arith in
    rw (le-leb 13 (length (log_of (x ∷ es))) (omega arith), at, log-number (x ∷ es) n (omega arith), mod-add-mod n 65536 1) (ap (λ (k : ℕ). k % 65536) (omega arith))

-- the log of one event more is the log, and a record behind it
log-of-more : (es : List Event) (e : Event) → log_of (es ++ (e ∷ [])) ≡ log_of es ++ record_of (length es % 65536) e
log-of-more es e = ap (λ (l : List ℕ). head ++ l) (records-more 0 es e (omega arith) ∙ ap (λ (n : ℕ). records_from 0 es ++ record_of (n % 65536) e) (zero-add (length es)))

-- bytes behind others, and both at once
together : (buffer log new : List ℕ) → wrote (log ++ drop (length log) buffer) (length log) new ≡ wrote buffer 0 (log ++ new)
together buffer log new =
    let rest = drop (length log) buffer in
    rw (zero-add (length (log ++ new)), length-append log new, take-append_seam log rest, drop-append-add log rest (length new), drop-drop (length new) (length log) buffer) refl

pub log-more : LogMore
log-more buffer es e ok h =
    let log = log_of es in
    let n = length log in
    let rest = drop n buffer in
    let long = length-append log rest in
    let left = length-drop n buffer in
    let both = and_both (not (is_long e)) (not (is_backward e)) ok in
    let whole : (n - 5) % 8 ≡ 0 = ap (λ (k : ℕ). (k - 5) % 8) (length-log es) ∙ ap (λ (k : ℕ). k % 8) (omega arith) ∙ mul-mod_right 8 (length es) in
    a-record (log ++ rest) n e (not-true (is_long e) both.0) (not-true (is_backward e) both.1) (omega arith) refl refl whole (omega arith)
    ∙ ap (λ (k : ℕ). wrote (log ++ rest) n (record_of k e)) (ap number_behind (take-append_seam log rest) ∙ behind es)
    ∙ together buffer log (record_of (length es % 65536) e)
    ∙ ap (wrote buffer 0) (sym (log-of-more es e))

more : (buffer : List ℕ) (ds es : List Event) → T (every may_be_logged es) → 5 + 8 * (length ds + length es) ≤ length buffer
    → records_in es (wrote buffer 0 (log_of ds)) ≡ wrote buffer 0 (log_of (ds ++ es))
unfolding records_in
more buffer ds [] ok h = rw (append-nil ds) refl
more buffer ds (e ∷ es) ok h =
    let here : may_be_logged e ≡ true = is_true (may_be_logged e) (and_l (may_be_logged e) (every may_be_logged es) ok) in
    let long = length-log ds in
    let one = length-append ds (e ∷ []) in
    ap (records_in es) (ap (λ (k : ℕ). record_in (log_of ds ++ drop k buffer) k e) (zero-add (length (log_of ds))) ∙ log-more buffer ds e here (omega arith))
    ∙ more buffer (ds ++ (e ∷ [])) es (and_r (may_be_logged e) (every may_be_logged es) ok) (omega arith)
    ∙ ap (λ (l : List Event). wrote buffer 0 (log_of l)) (append_assoc ds (e ∷ []) es)

pub writes-log : WritesLog
unfolding records_from
writes-log buffer es ok h = ap (records_in es) (a-head buffer (omega arith)) ∙ more buffer [] es ok (omega arith)
