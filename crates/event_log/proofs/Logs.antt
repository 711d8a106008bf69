-- What a log is: its length, and the numbers of its records. Assumes nothing.
use Rattle.std.proofs.Common.{◌≡◌, ℕ, zero, suc, ◌+◌, ◌*◌, ◌%◌, ◌<◌, List, [], ◌∷◌, ◌++◌, length, get_or, sym, refl, ap, ◌∙◌, append_assoc, append-nil, add-zero, mod-lt, mod-eq_of_lt, zero-add, arith, length-append}
use native.Mathlib.Nat.{mod-add-mod}
use lib.Seq.{drop-append-add}
use Rattle.math.proofs.Bytes.{low-back, low_reads}
use Rattle.event_log.specs.declared.event.Event.{Event}
use Rattle.event_log.specs.Format.{head, next, record_of, records_from}
use Rattle.event_log.specs.Writing.{number_at}
use Rattle.event_log.specs.Promises.{LengthLog, LogNumber, PartNumber}

pub length-records : (n : ℕ) (es : List Event) → length (records_from n es) ≡ 8 * length es
unfolding records_from
length-records n [] = refl
length-records n (e ∷ es) = omega (arith, length-append (record_of n e) (records_from (next n) es), length-records (next n) es)

pub length-log : LengthLog
length-log es = omega (arith, length-append head (records_from 0 es), length-records 0 es)

-- a number, as it is read byte by byte
pub number_read : (log : List ℕ) (place : ℕ) → get_or log place 0 + get_or log (place + 1) 0 * 256 ≡ number_at log place
number_read log place = omega (arith, low_reads 2 place log)

wraps : (n i : ℕ) → (next n + i) % 65536 ≡ (n + suc i) % 65536
wraps n i = mod-add-mod (n + 1) 65536 i ∙ ap (λ (k : ℕ). k % 65536) (omega arith)

below : (n : ℕ) → n % 65536 < 65536
below n = mod-lt n (omega arith)

-- the record at place i of those that follow each other from number n on
pub records-number : (n : ℕ) (es : List Event) (i : ℕ) → n < 65536 → i < length es → number_at (records_from n es) (8 * i) ≡ (n + i) % 65536
unfolding records_from
records-number n [] i h k = absurd (omega arith)
records-number n (e ∷ es) zero h k = low-back 2 n h ∙ sym (ap (λ (m : ℕ). m % 65536) (add-zero n) ∙ mod-eq_of_lt h)
records-number n (e ∷ es) (suc i) h k =
    let rest = records_from (next n) es in
    let behind : 8 * suc i ≡ 8 + 8 * i = omega arith in
    rw (behind, drop-append-add (record_of n e) rest (8 * i))
    (records-number (next n) es i (below (n + 1)) (omega arith) ∙ wraps n i)

pub log-number : LogNumber
log-number es i h =
    let rest = records_from 0 es in
    rw (drop-append-add head rest (8 * i))
    (records-number 0 es i (omega arith) h ∙ ap (λ (m : ℕ). m % 65536) (zero-add i))

-- records behind others go on with their numbers
pub records-append : (n : ℕ) (ds es : List Event) → n < 65536 → records_from n (ds ++ es) ≡ records_from n ds ++ records_from ((n + length ds) % 65536) es
unfolding records_from
records-append n [] es h = rw (add-zero n, mod-eq_of_lt h) refl
records-append n (d ∷ ds) es h = rw (records-append (next n) ds es (below (n + 1)), wraps n (length ds), append_assoc) refl

-- and so does one
pub records-more : (n : ℕ) (es : List Event) (e : Event) → n < 65536 → records_from n (es ++ (e ∷ [])) ≡ records_from n es ++ record_of ((n + length es) % 65536) e
unfolding records_from
records-more n es e h = records-append n es (e ∷ []) h ∙ (rw append-nil refl)

pub part-number : PartNumber
part-number n e h = ap next (low-back 2 n h)
