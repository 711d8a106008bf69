-- What a track promises: ascending times, finite values, the value that was pushed, the ends, and what `running` says. Assumes nothing.
use Rattle.std.specs.Prelude.{Err, None, Ok, Option, Some}
use Rattle.std.proofs.Common.{◌≡◌, ℕ, ◌<◌, Bool, true, false, cond, not, ◌||◌, T, eqb, ltb, leb, List, ◌++◌, length, get_or, take, drop, sym, refl, ap, subst, take_at, Result}
use mathlib.Core.Path.{subst⁻¹}
use mathlib.Core.Bool.{or-true}
use lib.Ieee.{Float, binary32, fits, lt, le, eq, of_bits}
use Rattle.math.specs.Rounded.{◌⊕◌, zero_f, top_f}
use Rattle.math.specs.Range.{max_zero_of}
use Rattle.math.proofs.Choice.{by-test}
use Rattle.math.proofs.Order.{equal-le, not-lt-of-le}
use Rattle.bezier.specs.declared.types.Found.{Found}
use Rattle.frames.specs.declared.frame.Keyframe.{Keyframe}
use Rattle.frames.specs.declared.frame.Put.{Put}
use Rattle.frames.specs.Limits.{frames_within, before_all, no_frame}
use Rattle.frames.specs.Sampling.{cut_of, last_of, own_of, at_of, first_of, sample_of}
use Rattle.frames.specs.Pushing.{pushed_of, put_of}
use Rattle.frames.proofs.Rising.{rising}
use Rattle.frames.proofs.Pushed.{pushed-in}
use Rattle.frames.proofs.Samples.{sample-finite, sample-first, sample-last}
use Rattle.frames.proofs.Owned.{sample-own}
use Rattle.keyframe.specs.declared.types.Track.{Track}
use Rattle.keyframe.specs.declared.types.Updated.{Updated}
use Rattle.keyframe.specs.Limits.{frames_in, base_of, end_of, Fine}
use Rattle.keyframe.specs.Playback.{done_of}
use Rattle.keyframe.specs.Stepping.{moved_of, passes_made, advance_of}
use Rattle.keyframe.specs.Pushing.{stored_of, placed_of, push_of, left_by}
use Rattle.keyframe.specs.Promises.{Ascending, PushSampled, SampleReal, AtFirst, AtLast, Running}
use Rattle.keyframe.proofs.Records.{frames-fine}
use Rattle.keyframe.proofs.Changes.{by-push}
use Rattle.keyframe.proofs.Moves.{by-update}
use Rattle.keyframe.proofs.Kept.{push-within}
use Rattle.refusal.specs.declared.rejected.Rejected.{Rejected}

zero-below : lt zero_f zero_f ≡ false
unfolding lt of_bits
zero-below = refl

-- a time that equals 0 is sampled as +0 is
stored_same : (l : List Keyframe) (k : Keyframe) → sample_of l (stored_of k).time ≡ sample_of l k.time
unfolding sample_of
stored_same l k = ap (λ (x : Float). cond (eqb (length l) 1) (own_of (first_of l)) (at_of l (cut_of x (last_of l).time))) (maxed k.time (eq k.time zero_f) refl)
  where
    maxed : (x : Float) (b : Bool) → eq x zero_f ≡ b → max_zero_of (cond b zero_f x) ≡ max_zero_of x
    maxed x false e = refl
    maxed x true e = rw (not-lt-of-le x zero_f (equal-le x zero_f (subst⁻¹ T e tt)), zero-below)

-- where a push is done, a sample at its time equals the value that was pushed
abbrev Sampled : Float → Float → Result Track (Rejected Track) → Type 0
Sampled time value (Ok u) = Fine u → eq (sample_of (frames_in u) time).value value ≡ true
Sampled time value (Err r) = Unit {0}

placed-sampled : (t : Track) (k : Keyframe) → T (fits binary32 k.value) → Sampled k.time k.value (placed_of t (put_of t.frames t.count k))
unfolding put_of placed_of
placed-sampled t k F =
    let l = pushed_of k (frames_in t) in
    by-test (λ (p : Result Put Put). Sampled k.time k.value (placed_of t p)) (leb (length l) 64) (Ok (record { frames = l ++ drop (length l) t.frames; count = length l })) (Err (record { frames = t.frames; count = t.count }))
    (λ _ fine. go l (pushed-in k (frames_in t)) (take (length l) (l ++ drop (length l) t.frames)) (take_at l (drop (length l) t.frames) (length l) refl) (frames-fine _ fine))
    (λ _. tt)
  where
    go : (l : List Keyframe) → (p : ℕ) × ((p < length l) × (get_or l p no_frame ≡ k)) → (m : List Keyframe) → m ≡ l → frames_within m ≡ true → eq (sample_of m k.time).value k.value ≡ true
    go l (p, (h, e)) m s fine =
        rw s
        (subst (λ (x : Keyframe). eq (sample_of l x.time).value x.value ≡ true) e (sample-own l (rw s at fine) p h (subst⁻¹ (λ (x : Keyframe). T (fits binary32 x.value)) e F)))

pub push-sampled : PushSampled
push-sampled t fine k u F h =
    let within : Fine u = subst (λ (r : Result Track (Rejected Track)). Fine (left_by r)) h (push-within t fine k) in
    subst (λ (f : Found). eq f.value k.value ≡ true) (stored_same (frames_in u) k) (subst (Sampled (stored_of k).time k.value) h sampled within)
  where
    sampled : Sampled (stored_of k).time k.value (push_of t k)
    sampled = by-push (Sampled (stored_of k).time k.value) t k (λ r. tt) (λ _ _ _. placed-sampled t (stored_of k) F)

pub ascending : Ascending
ascending t fine = rising before_all (frames_in t) (frames-fine t fine)

pub sample-real : SampleReal
sample-real t fine some = sample-finite (frames_in t) (frames-fine t fine) some

pub at_first : AtFirst
at_first t fine some = sample-first (frames_in t) (frames-fine t fine) some

pub at_last : AtLast
at_last t fine some = sample-last (frames_in t) (frames-fine t fine) some

-- what an update tells of running
abbrev Told : Result Updated (Rejected Track) → Type 0
Told (Ok u) = u.running ≡ not (done_of u.track)
Told (Err r) = Unit {0}

-- not done: two frames or more
goes : (t : Track) → done_of t ≡ false → (e : Float) (c : ℕ) → done_of (moved_of t e c false) ≡ false
goes t h e c = go (ltb t.count 2) h
  where
    go : (b : Bool) → b || t.complete ≡ false → b || false ≡ false
    go true k = k
    go false k = refl

advance-told : (t : Track) → done_of t ≡ false → (end : Option Float) (sum : Float) → Told (advance_of end t sum)
unfolding advance_of
advance-told t h (Some total) sum =
    by-test Told (le total sum) _ _ (λ _. sym (ap not (or-true (ltb t.count 2))))
    (λ _. sym (ap not (goes t h sum (passes_made t sum))))
advance-told t h None sum =
    by-test Told (lt top_f sum) _ _ (λ _. tt)
    (λ _. sym (ap not (goes t h sum (passes_made t sum))))

pub running : Running
running t u dt b h = subst Told h (by-update Told t dt (λ r. tt) (λ d. sym (ap not d)) (λ d. advance-told t d (end_of t.looping (base_of t)) (t.elapsed ⊕ max_zero_of dt)))
