-- A log by our writer without some of its records: the reader counts exactly those. Assumes nothing.
use Rattle.std.proofs.Common.{◌≡◌, ℕ, zero, suc, ◌+◌, ◌*◌, ◌/◌, ◌%◌, ◌<◌, ◌≤◌, Bool, T, eqb, leb, List, [], ◌∷◌, ◌++◌, length, take, drop, sym, refl, ap, ◌∙◌, append_assoc, arith, take-append-drop, length-take-le, take_at, drop_at, le-ltb}
use lib.Ieee.Fits.{and_i, and_l, and_r}
use lib.Seq.{take-append-add, drop-append-add}
use Rattle.math.specs.Lists.{every, split}
use Rattle.math.proofs.Choice.{by-test}
use Rattle.refusal.specs.declared.Refusal.{Refusal}
use Rattle.refusal.specs.declared.Refusal.TheVariants.{RecordBreaksLimit, OutputTooShort, WrongLength}
use Rattle.tween.specs.declared.record.Tween.{Tween}
use Rattle.tween.specs.Limits.{within_of}
use Rattle.event_log.specs.declared.event.Event.{Event}
use Rattle.event_log.specs.Format.{head, records_from, log_of}
use Rattle.event_log.specs.Writing.{may_be_logged}
use Rattle.event_log.proofs.Logs.{length-records, records-append}
use Rattle.reader.specs.Records.{records_of}
use Rattle.reader.specs.Reading.{Reading, stopped, read_on_of, begin_of, replay_of}
use Rattle.reader.specs.Promises.{is_f32, without, CountsDropped}
use Rattle.reader.proofs.Parts.{records-both}
use Rattle.reader.proofs.Dropped.{Missing, counts-between}

all_take : (f : Event → Bool) (n : ℕ) (es : List Event) → T (every f es) → T (every f (take n es))
all_take f zero es h = tt
all_take f (suc n) [] h = tt
all_take f (suc n) (e ∷ es) h = and_i (f e) (every f (take n es)) (and_l (f e) (every f es) h) (all_take f n es (and_r (f e) (every f es) h))

all_drop : (f : Event → Bool) (n : ℕ) (es : List Event) → T (every f es) → T (every f (drop n es))
all_drop f zero es h = h
all_drop f (suc n) [] h = tt
all_drop f (suc n) (e ∷ es) h = all_drop f n es (and_r (f e) (every f es) h)

-- the records of a log, cut behind the first n
cut : (n : ℕ) (es : List Event) → records_from 0 es ≡ records_from 0 (take n es) ++ records_from ((0 + length (take n es)) % 65536) (drop n es)
cut n es = ap (records_from 0) (sym (take-append-drop n es)) ∙ records-append 0 (take n es) (drop n es) (omega arith)

module _ (es : List Event) (n : ℕ) (inside : n ≤ length es) where
  long : length (records_from 0 (take n es)) ≡ 8 * n
  long = length-records 0 (take n es) ∙ ap (λ (x : ℕ). 8 * x) (length-take-le n es inside)

  front : take (8 * n) (records_from 0 es) ≡ records_from 0 (take n es)
  front = ap (take (8 * n)) (cut n es) ∙ take_at (records_from 0 (take n es)) _ (8 * n) long

  back : drop (8 * n) (records_from 0 es) ≡ records_from (n % 65536) (drop n es)
  back =
      let e : 0 + length (take n es) ≡ n = omega (arith, length-take-le n es inside) in
      ap (drop (8 * n)) (cut n es) ∙ drop_at (records_from 0 (take n es)) _ (8 * n) long ∙ ap (λ (x : ℕ). records_from (x % 65536) (drop n es)) e

module _ (es : List Event) (i k : ℕ) (inside : i + k < length es) where
  abbrev bytes : List ℕ
  bytes = records_from 0 (take i es) ++ records_from ((i + k) % 65536) (drop (i + k) es)

  log_is : without i k (log_of es) ≡ head ++ bytes
  log_is =
      rw (take-append-add head (records_from 0 es) (8 * i), drop-append-add head (records_from 0 es) (8 * (i + k)), front es i (omega arith), back es (i + k) (omega arith))
      (append_assoc head (records_from 0 (take i es)) (records_from ((i + k) % 65536) (drop (i + k) es)))

  records-are : records_of bytes ≡ split 8 (length (take i es)) (records_from 0 (take i es)) ++ split 8 (length (drop (i + k) es)) (records_from ((length (take i es) + k) % 65536) (drop (i + k) es))
  records-are =
      let ds = take i es in
      let qs = drop (i + k) es in
      let n = (i + k) % 65536 in
      let d : length (records_from 0 ds) / 8 ≡ length ds = omega (arith, length-records 0 ds) in
      let q : length (records_from n qs) / 8 ≡ length qs = omega (arith, length-records n qs) in
      let l : length ds + k ≡ i + k = omega (arith, length-take-le i es (omega arith)) in
      records-both (records_from 0 ds) (records_from n qs) (omega (arith, length-records 0 ds)) ∙ (rw (d, q, l) refl)

-- nothing was read
nothing : (t : Tween) (r : Refusal) (i k : ℕ) → Missing i k (stopped (begin_of t) r)
nothing t r i k = (λ j h. absurd (omega (arith, h)), rw (le-ltb i 0 (omega arith)) refl)

pub counts-dropped : CountsDropped
unfolding replay_of read_on_of
counts-dropped t es i k list F L one some most inside =
    let M : Reading → Type 0 = Missing i k in
    let d : length (take i es) ≡ i = length-take-le i es (omega arith) in
    rw (log_is es i k inside)
    (by-test M (within_of t) _ _ (λ _.
    by-test M (eqb (length (bytes es i k inside) % 8) 0) _ _ (λ _.
    by-test M (leb (length (bytes es i k inside) / 8) (length list)) _ _ (λ _.
    rw (records-are es i k inside, d) (rw d at (counts-between k some most (take i es) (drop (i + k) es) (all_take is_f32 i es F) (all_drop is_f32 (i + k) es F) (all_take may_be_logged i es L) (all_drop may_be_logged (i + k) es L) (omega arith) (begin_of t) refl refl)))
    (λ _. nothing t OutputTooShort i k)) (λ _. nothing t WrongLength i k)) (λ _. nothing t RecordBreaksLimit i k))
