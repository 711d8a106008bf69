-- A log in parts: part after part gives what the whole gives. Assumes nothing.
use Rattle.std.specs.Prelude.{Err, Ok, Result, ⊤}
use Rattle.std.proofs.Common.{◌≡◌, ℕ, ◌+◌, ◌/◌, ◌%◌, ◌≤◌, Bool, true, false, ◌&&◌, eqb, List, [], ◌∷◌, ◌++◌, length, drop, sym, refl, ap, ◌∙◌, arith, length-append, length-drop}
use lib.Seq.{drop-append-le}
use Rattle.math.specs.Lists.{split}
use Rattle.math.proofs.Parts.{split-append}
use Rattle.refusal.specs.declared.Refusal.{Refusal}
use Rattle.refusal.specs.declared.Refusal.TheVariants.{RecordBreaksLimit, WrongMark, UnknownVersion}
use Rattle.refusal.specs.Refusing.{unless}
use Rattle.tween.specs.Limits.{within_of}
use Rattle.event_log.specs.Format.{mark, version, starts_with}
use Rattle.reader.specs.declared.hear.Replay.{Replay}
use Rattle.reader.specs.declared.hear.Heard.{Heard}
use Rattle.reader.specs.Records.{records_of}
use Rattle.reader.specs.Hearing.{heard_of}
use Rattle.reader.specs.Reading.{Reading, stopped, followed, reading_of, read_on_of, begin_of, replay_of, joined_by, joined}
use Rattle.reader.specs.Promises.{PartByPart, LogPartByPart}
use Rattle.reader.proofs.Refusals.{reads}

-- a gap before those of two readings, or before those of the first
gap-before : (g : ℕ) (o : Result ⊤ Refusal) (c : Reading) (rest : Replay → Reading) → let d = joined_by o c rest in
    record { gaps = g ∷ d.gaps; replay = d.replay; outcome = d.outcome } ≡ joined_by o (record { gaps = g ∷ c.gaps; replay = c.replay; outcome = c.outcome }) rest
gap-before g (Ok tt) c rest = refl
gap-before g (Err r) c rest = refl

-- one record more in front
one_more : (rs qs : List (List ℕ)) (s : Replay) (h : Result Heard Refusal) → ((u : Replay) → reading_of (rs ++ qs) u ≡ joined (reading_of rs u) (reading_of qs))
    → followed h s (reading_of (rs ++ qs)) ≡ joined (followed h s (reading_of rs)) (reading_of qs)
one_more rs qs s (Ok o) rest =
    let read = reading_of rs o.reached in
    ap (λ (c : Reading). record { gaps = o.gap ∷ c.gaps; replay = c.replay; outcome = c.outcome }) (rest o.reached)
    ∙ gap-before o.gap read.outcome read (reading_of qs)
one_more rs qs s (Err x) rest = refl

pub reads_on : (rs qs : List (List ℕ)) (s : Replay) → reading_of (rs ++ qs) s ≡ joined (reading_of rs s) (reading_of qs)
unfolding reading_of
reads_on [] qs s = refl
reads_on (r ∷ rs) qs s = one_more rs qs s (heard_of s r) (reads_on rs qs)

-- what follows, told in two ways
same_rest : (o : Result ⊤ Refusal) (c : Reading) (f g : Replay → Reading) → ((u : Replay) → f u ≡ g u) → joined_by o c f ≡ joined_by o c g
same_rest (Ok tt) c f g h = ap (λ (d : Reading). record { gaps = c.gaps ++ d.gaps; replay = d.replay; outcome = d.outcome }) (h c.replay)
same_rest (Err r) c f g h = refl

pub records-both : (a b : List ℕ) → length a % 8 ≡ 0 → records_of (a ++ b) ≡ records_of a ++ records_of b
records-both a b h =
    let e : length (a ++ b) / 8 ≡ length a / 8 + length b / 8 = omega (arith, length-append a b) in
    ap (λ (n : ℕ). split 8 n (a ++ b)) e ∙ split-append 8 (length a / 8) (length b / 8) a b (omega arith)

pub part-by-part : PartByPart
part-by-part s a b first second list (p, i) (q, j) (w, k) =
    let c = reading_of (records_of a) s in
    reads s (a ++ b) list w k
    ∙ ap (λ (rs : List (List ℕ)). reading_of rs s) (records-both a b p)
    ∙ reads_on (records_of a) (records_of b) s
    ∙ same_rest c.outcome c (reading_of (records_of b)) (λ u. read_on_of u b second) (λ u. sym (reads u b second q j))
    ∙ ap (λ (d : Reading). joined d (λ u. read_on_of u b second)) (sym (reads s a first p i))

-- what follows does not change how a log begins
starts-front : (p l b : List ℕ) → length p ≤ length l → starts_with p (l ++ b) ≡ starts_with p l
starts-front [] l b h = refl
starts-front (x ∷ p) [] b h = absurd (omega arith)
starts-front (x ∷ p) (y ∷ l) b h = ap (λ (t : Bool). eqb y x && t) (starts-front p l b (omega arith))

-- three tests before the first part
tested : (w m v : Bool) (s : Replay) (x y z : Refusal) (a b : Reading) (rest : Replay → Reading) → a ≡ joined b rest
    → unless w (stopped s x) (unless m (stopped s y) (unless v (stopped s z) a)) ≡ joined (unless w (stopped s x) (unless m (stopped s y) (unless v (stopped s z) b))) rest
tested false m v s x y z a b rest h = refl
tested true false v s x y z a b rest h = refl
tested true true false s x y z a b rest h = refl
tested true true true s x y z a b rest h = h

pub log-part-by-part : LogPartByPart
unfolding replay_of
log-part-by-part t log b first second list h x y z =
    let e = drop-append-le 5 log b h in
    rw (starts-front mark log b (omega arith), drop-append-le 3 log b (omega arith), starts-front version (drop 3 log) b (omega (arith, length-drop 3 log)), e)
    (tested (within_of t) (starts_with mark log) (starts_with version (drop 3 log)) (begin_of t) RecordBreaksLimit WrongMark UnknownVersion (read_on_of (begin_of t) (drop 5 log ++ b) list) (read_on_of (begin_of t) (drop 5 log) first) (λ u. read_on_of u b second)
    (part-by-part (begin_of t) (drop 5 log) b first second list x y (rw e at z)))
