-- A frame pushed among frames within their limits: the frames stay within them, ascending; the last time is the later one; and the frame is there. Assumes nothing.
use Prim.Native.Nat.{ℕ, suc, ◌-◌, ◌<◌}
use mathlib.Core.Path.{◌≡◌, refl, sym, ap, ◌∙◌, subst}
use mathlib.Core.Bool.{Bool, true, false, cond}
use mathlib.Core.List.{List, [], ◌∷◌}
use native.Mathlib.Omega.{arith}
use borrow.Author.Tests.{ne_eqb}
use lib.Dec.{T}
use lib.ListN.{length, get_or}
use lib.Ieee.{Float, lt, le, eq, is_nan}
use lib.Ieee.Bits.{is_true}
use denote.Floats.{passes as holds}
use Rattle.math.specs.Rounded.{zero_f}
use Rattle.math.proofs.Choice.{by-test}
use Rattle.math.proofs.Upward.{Up}
use Rattle.math.proofs.Order.{lt-le, equal-le, le_of_not_lt, not-lt-of-le, le-lt-chain}
use Rattle.frames.specs.declared.frame.Keyframe.{Keyframe}
use Rattle.frames.specs.Limits.{frame_within, frames_after, frames_within, before_all, no_frame}
use Rattle.frames.specs.Sampling.{last_of, duration_of}
use Rattle.frames.specs.Pushing.{pushed_of}
use Rattle.frames.specs.Promises.{PushedFine, PushedIn}
use Rattle.frames.proofs.Rising.{time-fine, time-number, head-fine, head-above, rest-fine, above}

-- two times, of which the first is not below the second
module _ (x y : Float) (p : is_nan x ≡ false) (q : is_nan y ≡ false) (h : lt x y ≡ false) where
  apart : eq x y ≡ false → T (lt y x)
  unfolding le
  apart e = go (lt y x) refl
    where
      go : (b : Bool) → lt y x ≡ b → T b
      go true k = tt
      go false k = absurd (rw (h, e) at (le_of_not_lt y x q p k))

frames-cons : (p : Float) (k : Keyframe) (ks : List Keyframe) → frame_within k ≡ true → T (lt p k.time) → frames_after k.time ks ≡ true → frames_after p (k ∷ ks) ≡ true
unfolding frames_after
frames-cons p k ks f a r = rw (f, is_true (lt p k.time) a, r)

-- after an earlier time, frames are fine too
sooner : (p q : Float) (l : List Keyframe) → T (le q p) → frames_after p l ≡ true → frames_after q l ≡ true
unfolding frames_after
sooner p q [] h f = refl
sooner p q (k ∷ ks) h f = frames-cons q k ks (head-fine p k ks f) (le-lt-chain q p k.time h (head-above p k ks f)) (rest-fine p k ks f)

real : (k : Keyframe) → frame_within k ≡ true → is_nan k.time ≡ false
real k fine = time-number k.time (time-fine k fine)

pub pushed-fine : PushedFine
unfolding pushed_of frames_after
pushed-fine k fine p [] a f = frames-cons p k [] fine a refl
pushed-fine k fine p (g ∷ gs) a f =
    let n : is_nan g.time ≡ false = time-number g.time (time-fine g (head-fine p g gs f)) in
    by-test (λ (r : List Keyframe). frames_after p r ≡ true) (lt g.time k.time) (g ∷ pushed_of k gs) _
    (λ h. frames-cons p g (pushed_of k gs) (head-fine p g gs f) (head-above p g gs f) (pushed-fine k fine g.time gs (holds (lt g.time k.time) h) (rest-fine p g gs f)))
    (λ h.
    by-test (λ (r : List Keyframe). frames_after p r ≡ true) (eq g.time k.time) (k ∷ gs) (k ∷ g ∷ gs)
    (λ e. frames-cons p k gs fine a (sooner g.time k.time gs (le_of_not_lt g.time k.time n (real k fine) h) (rest-fine p g gs f)))
    (λ e. frames-cons p k (g ∷ gs) fine a (frames-cons k.time g gs (head-fine p g gs f) (apart g.time k.time n (real k fine) h e) (rest-fine p g gs f))))

-- the last frame of one that is there and those after it
abbrev last_from : Keyframe → List Keyframe → Keyframe
last_from f [] = f
last_from f (g ∷ gs) = last_from g gs

last-from : (f : Keyframe) (fs : List Keyframe) → last_of (f ∷ fs) ≡ last_from f fs
last-from f [] = refl
last-from f (g ∷ gs) =
    let e : length (f ∷ g ∷ gs) - 1 ≡ suc (length (g ∷ gs) - 1) = omega arith in
    rw e (last-from g gs)

duration-from : (f : Keyframe) (fs : List Keyframe) → duration_of (f ∷ fs) ≡ (last_from f fs).time
unfolding duration_of
duration-from f fs =
    let some : 0 < length (f ∷ fs) = omega arith in
    rw (ne_eqb (length (f ∷ fs)) 0 (λ e. omega arith)) (ap (λ (x : Keyframe). x.time) (last-from f fs))

last_cons : (f : Keyframe) (l : List Keyframe) → 0 < length l → last_of (f ∷ l) ≡ last_of l
last_cons f l some =
    let e : length (f ∷ l) - 1 ≡ suc (length l - 1) = omega (arith, some) in
    rw e

pushed-some : (k : Keyframe) (l : List Keyframe) → 0 < length (pushed_of k l)
unfolding pushed_of
pushed-some k [] = omega arith
pushed-some k (f ∷ fs) =
    by-test (λ (r : List Keyframe). 0 < length r) (lt f.time k.time) (f ∷ pushed_of k fs) _ (λ _. omega arith)
    (λ _. by-test (λ (r : List Keyframe). 0 < length r) (eq f.time k.time) (k ∷ fs) (k ∷ f ∷ fs) (λ _. omega arith) (λ _. omega arith))

-- the last time of r is the later of k's and of x
abbrev Later : Keyframe → Float → List Keyframe → Type 0
Later k x r = (last_of r).time ≡ cond (lt k.time x) x k.time

module _ (k : Keyframe) (real : is_nan k.time ≡ false) where
  later-from : (p : Float) (f : Keyframe) (fs : List Keyframe) → frames_after p (f ∷ fs) ≡ true → Later k (last_from f fs).time (pushed_of k (f ∷ fs))
  unfolding pushed_of
  later-from p f [] h =
      let n : is_nan f.time ≡ false = time-number f.time (time-fine f (head-fine p f [] h)) in
      by-test (Later k f.time) (lt f.time k.time) (f ∷ k ∷ []) _ (λ a. rw (not-lt-of-le f.time k.time (lt-le f.time k.time (holds (lt f.time k.time) a))))
      (λ a.
      by-test (Later k f.time) (eq f.time k.time) (k ∷ []) (k ∷ f ∷ []) (λ e. rw (not-lt-of-le f.time k.time (equal-le f.time k.time (holds (eq f.time k.time) e))))
      (λ e. rw (is_true (lt k.time f.time) (apart f.time k.time n real a e))))
  later-from p f (g ∷ gs) h =
      let n : is_nan f.time ≡ false = time-number f.time (time-fine f (head-fine p f (g ∷ gs) h)) in
      let r : frames_after f.time (g ∷ gs) ≡ true = rest-fine p f (g ∷ gs) h in
      let b : length (g ∷ gs) - 1 < length (g ∷ gs) = omega arith in
      let z : T (lt f.time (last_from g gs).time) = subst (λ (x : Keyframe). T (lt f.time x.time)) (last-from g gs) (above f.time (g ∷ gs) r (length (g ∷ gs) - 1) b) in
      by-test (Later k (last_from g gs).time) (lt f.time k.time) (f ∷ pushed_of k (g ∷ gs)) _ (λ a. ap (λ (x : Keyframe). x.time) (last_cons f (pushed_of k (g ∷ gs)) (pushed-some k (g ∷ gs))) ∙ later-from f.time g gs r)
      (λ a.
      let l : lt k.time (last_from g gs).time ≡ true = is_true (lt k.time (last_from g gs).time) (le-lt-chain k.time f.time (last_from g gs).time (le_of_not_lt f.time k.time n real a) z) in
      by-test (Later k (last_from g gs).time) (eq f.time k.time) (k ∷ g ∷ gs) (k ∷ f ∷ g ∷ gs) (λ e. rw l (ap (λ (x : Keyframe). x.time) (last-from k (g ∷ gs)))) (λ e. rw l (ap (λ (x : Keyframe). x.time) (last-from k (f ∷ g ∷ gs)))))

  pub pushed-last : Up k.time → (l : List Keyframe) → frames_within l ≡ true → duration_of (pushed_of k l) ≡ cond (lt k.time (duration_of l)) (duration_of l) k.time
  unfolding duration_of pushed_of
  pushed-last u [] h = rw (not-lt-of-le zero_f k.time u)
  pushed-last u (f ∷ fs) h =
      let some : 0 < length (pushed_of k (f ∷ fs)) = pushed-some k (f ∷ fs) in
      rw (ne_eqb (length (pushed_of k (f ∷ fs))) 0 (λ e. omega arith)) (later-from before_all f fs h ∙ ap (λ (x : Float). cond (lt k.time x) x k.time) (sym (duration-from f fs)))

-- where k is
abbrev In : Keyframe → List Keyframe → Type 0
In k r = (p : ℕ) × ((p < length r) × (get_or r p no_frame ≡ k))

pub pushed-in : PushedIn
unfolding pushed_of
pushed-in k [] = (0, (omega arith, refl))
pushed-in k (f ∷ fs) =
    by-test (In k) (lt f.time k.time) (f ∷ pushed_of k fs) _
    (λ _.
    let r = pushed-in k fs in
    (suc r.0, (omega (arith, r.1.0), r.1.1)))
    (λ _. by-test (In k) (eq f.time k.time) (k ∷ fs) (k ∷ f ∷ fs) (λ _. (0, (omega arith, refl))) (λ _. (0, (omega arith, refl))))
