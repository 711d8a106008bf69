-- Where a pushed frame goes: it replaces the first frame that is not earlier, or goes before it. Assumes nothing.
use Prim.Native.Nat.{ℕ, suc, ◌+◌, ◌-◌, ◌<◌, ◌≤◌}
use mathlib.Core.Path.{◌≡◌, refl, sym, ap, ◌∙◌}
use mathlib.Core.Bool.{Bool, true, false, cond}
use mathlib.Core.List.{List, [], ◌∷◌, ◌++◌, append_assoc}
use native.Mathlib.Omega.{arith}
use lib.ListN.{length, take, drop, get_or, set, length-set, length-append, length-drop, take-append-drop}
use lib.Seq.{length-take-le, take-take, take-add, drop_at, set-append_left, get_or-take}
use lib.Ieee.{lt, eq}
use borrow.Author.Tests.{le-leb, lt-leb}
use Rattle.frames.specs.declared.frame.Keyframe.{Keyframe}
use Rattle.frames.specs.Limits.{no_frame}
use Rattle.frames.specs.Sampling.{leading}
use Rattle.std.specs.Prelude.{Ok, Err}
use Rattle.frames.specs.Pushing.{pushed_of, put_of}
use Rattle.frames.specs.Inner.{earlier_of, insert_of}

module _ (k : Keyframe) where
  pushed-same : (l : List Keyframe) → earlier_of k.time l < length l → eq (get_or l (earlier_of k.time l) no_frame).time k.time ≡ true
      → pushed_of k l ≡ set l (earlier_of k.time l) k
  unfolding pushed_of leading
  pushed-same [] h e = absurd (omega (arith, h))
  pushed-same (f ∷ fs) h e = go (pushed-same fs) (lt f.time k.time) h e
    where
      go : (earlier_of k.time fs < length fs → eq (get_or fs (earlier_of k.time fs) no_frame).time k.time ≡ true → pushed_of k fs ≡ set fs (earlier_of k.time fs) k)
          → (b : Bool) → cond b (suc (earlier_of k.time fs)) 0 < suc (length fs)
          → eq (get_or (f ∷ fs) (cond b (suc (earlier_of k.time fs)) 0) no_frame).time k.time ≡ true
          → cond b (f ∷ pushed_of k fs) (cond (eq f.time k.time) (k ∷ fs) (k ∷ f ∷ fs)) ≡ set (f ∷ fs) (cond b (suc (earlier_of k.time fs)) 0) k
      go rest true h e = ap (λ (r : List Keyframe). f ∷ r) (rest (omega (arith, h)) e)
      go rest false h e = rw e

  pushed-new : (l : List Keyframe) → (earlier_of k.time l < length l → eq (get_or l (earlier_of k.time l) no_frame).time k.time ≡ false)
      → pushed_of k l ≡ take (earlier_of k.time l) l ++ k ∷ drop (earlier_of k.time l) l
  unfolding pushed_of leading
  pushed-new [] e = refl
  pushed-new (f ∷ fs) e = go (pushed-new fs) (lt f.time k.time) e
    where
      go : ((earlier_of k.time fs < length fs → eq (get_or fs (earlier_of k.time fs) no_frame).time k.time ≡ false) → pushed_of k fs ≡ take (earlier_of k.time fs) fs ++ k ∷ drop (earlier_of k.time fs) fs)
          → (b : Bool)
          → (cond b (suc (earlier_of k.time fs)) 0 < suc (length fs) → eq (get_or (f ∷ fs) (cond b (suc (earlier_of k.time fs)) 0) no_frame).time k.time ≡ false)
          → cond b (f ∷ pushed_of k fs) (cond (eq f.time k.time) (k ∷ fs) (k ∷ f ∷ fs))
          ≡ take (cond b (suc (earlier_of k.time fs)) 0) (f ∷ fs) ++ k ∷ drop (cond b (suc (earlier_of k.time fs)) 0) (f ∷ fs)
      go rest true e = ap (λ (r : List Keyframe). f ∷ r) (rest (λ h. e (omega (arith, h))))
      go rest false e = rw (e (omega arith))

module _ (fs : List Keyframe) (n : ℕ) (k : Keyframe) (fit : n ≤ length fs) (most : n ≤ 64) (p : ℕ) (at : p ≡ earlier_of k.time (take n fs)) where
  long : length (take n fs) ≡ n
  long = length-take-le n fs fit

  pub put_same : p < n → eq (get_or fs p no_frame).time k.time ≡ true → Ok (record { frames = set fs p k; count = n }) ≡ put_of fs n k
  unfolding put_of
  put_same h e =
      let s : pushed_of k (take n fs) ≡ set (take n fs) p k = rw at (pushed-same k (take n fs) (omega (arith, long, at)) (rw (← at, get_or-take n fs p no_frame h) e)) in
      let m : length (set (take n fs) p k) ≡ n = length-set (take n fs) p k ∙ long in
      let f : set (take n fs) p k ++ drop n fs ≡ set fs p k = sym (set-append_left (take n fs) (drop n fs) p k (omega (arith, long))) ∙ rw (take-append-drop n fs) in
      rw (s, m, le-leb n 64 most, f)

  none : (p < n → eq (get_or fs p no_frame).time k.time ≡ false) → pushed_of k (take n fs) ≡ take p (take n fs) ++ k ∷ drop p (take n fs)
  none e = rw at (pushed-new k (take n fs) (rw (← at, long) (λ h. rw (get_or-take n fs p no_frame h) (e h))))

  module _ (low : p ≤ n) (other : p < n → eq (get_or fs p no_frame).time k.time ≡ false) where
    behind : drop p (take n fs) ≡ take (n - p) (drop p fs)
    behind =
        let e : n ≡ p + (n - p) = omega arith in
        ap (λ (m : ℕ). drop p (take m fs)) e ∙ (rw (take-add p (n - p) fs) (drop_at (take p fs) (take (n - p) (drop p fs)) p (length-take-le p fs (omega arith))))

    parted : pushed_of k (take n fs) ≡ take p fs ++ k ∷ take (n - p) (drop p fs)
    parted = rw (none other, take-take p n fs low, behind)

    one_more : length (take p fs ++ k ∷ take (n - p) (drop p fs)) ≡ n + 1
    one_more =
        let a : length (take p fs) ≡ p = length-take-le p fs (omega arith) in
        let b : length (take (n - p) (drop p fs)) ≡ n - p = length-take-le (n - p) (drop p fs) (omega (arith, length-drop p fs)) in
        length-append (take p fs) (k ∷ take (n - p) (drop p fs)) ∙ omega arith

    pub put-new : n < 64 → Ok (record { frames = insert_of fs n p k; count = n + 1 }) ≡ put_of fs n k
    unfolding put_of insert_of
    put-new room = rw (parted, one_more, le-leb (n + 1) 64 (omega arith), append_assoc)

    pub put_full : 64 ≤ n → Err (record { frames = fs; count = n }) ≡ put_of fs n k
    unfolding put_of
    put_full room = rw (parted, one_more, lt-leb (n + 1) 64 (omega arith))
