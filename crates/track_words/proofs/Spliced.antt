-- A frame pushed among frames, by its place: those before it, it, and those from the next place on. Assumes nothing.
use Prim.Native.Nat.{ℕ, suc, ◌+◌, ◌-◌, ◌<◌, ◌≤◌}
use native.Mathlib.Nat.{eq-or-lt_of_le}
use native.Mathlib.Omega.{arith}
use mathlib.Core.Path.{◌≡◌, refl, sym, ap, subst, ◌∙◌}
use mathlib.Core.Bool.{Bool, true, false, cond, ◌&&◌}
use mathlib.Core.List.{List, [], ◌∷◌, ◌++◌}
use mathlib.Core.Logic.{⊎_elim}
use lib.Dec.{ltb, leb-suc-suc}
use lib.ListN.{length, length-append, length-drop, take, drop, get_or, get_or-append}
use lib.Seq.{ext_get_or, get_or-append-add, get_or_at, get_or-drop, get_or-take, length-take-le}
use lib.Ieee.{Float, lt, eq}
use borrow.Author.Tests.{lt-ltb, ltb-true, ltb-false}
use Rattle.math.specs.Lists.{firsts}
use Rattle.frames.specs.declared.frame.Keyframe.{Keyframe}
use Rattle.frames.specs.Inner.{earlier_of}
use Rattle.frames.specs.Limits.{no_frame}
use Rattle.frames.specs.Pushing.{pushed_of}
use Rattle.frames.specs.Sampling.{leading}
use Rattle.track_words.proofs.Placed.{length-firsts, firsts_at}

-- k between the first p frames and those from q on
abbrev pub spliced : List Keyframe → ℕ → Keyframe → ℕ → List Keyframe
spliced l p k q = take p l ++ k ∷ drop q l

-- at place p of l there is a frame of this time
abbrev pub has_time : List Keyframe → ℕ → Float → Bool
has_time l p time = ltb p (length l) && eq (get_or l p no_frame).time time

module _ (k : Keyframe) where
  pub pushed-spliced : (l : List Keyframe) → let p = earlier_of k.time l in pushed_of k l ≡ spliced l p k (cond (has_time l p k.time) (suc p) p)
  unfolding pushed_of leading
  pushed-spliced [] = refl
  pushed-spliced (f ∷ fs) = go (pushed-spliced fs) (lt f.time k.time)
    where
      go : (let p = earlier_of k.time fs in pushed_of k fs ≡ spliced fs p k (cond (has_time fs p k.time) (suc p) p))
          → (b : Bool)
          → cond b (f ∷ pushed_of k fs) (cond (eq f.time k.time) (k ∷ fs) (k ∷ f ∷ fs)) ≡ (let p = cond b (suc (earlier_of k.time fs)) 0 in spliced (f ∷ fs) p k (cond (has_time (f ∷ fs) p k.time) (suc p) p))
      go rest true = rw (leb-suc-suc (suc (earlier_of k.time fs)) (length fs), rest) (next (has_time fs (earlier_of k.time fs) k.time))
        where
          next : (b : Bool) → let p = earlier_of k.time fs in f ∷ spliced fs p k (cond b (suc p) p) ≡ spliced (f ∷ fs) (suc p) k (cond b (suc (suc p)) (suc p))
          next true = refl
          next false = refl
      go rest false = rw (lt-ltb 0 (suc (length fs)) (omega arith)) (here (eq f.time k.time))
        where
          here : (b : Bool) → cond b (k ∷ fs) (k ∷ f ∷ fs) ≡ k ∷ drop (cond b 1 0) (f ∷ fs)
          here true = refl
          here false = refl

-- the places before p, p, and m behind it
pub by_place : (C : ℕ → Type 0) (p m : ℕ) → ((i : ℕ) → i < p → C i) → C p → ((j : ℕ) → j < m → C (p + suc j)) → (i : ℕ) → i < p + suc m → C i
by_place C p m front here back i h = go (ltb i p) refl
  where
    go : (b : Bool) → ltb i p ≡ b → C i
    go true e = front i (ltb-true i p e)
    go false e =
        ⊎_elim (λ (s : p ≡ i). subst C s here)
        (λ (l : p < i).
        let s : p + suc (i - p - 1) ≡ i = omega (arith, l) in
        subst C s (back (i - p - 1) (omega (arith, l, h))))
        (eq-or-lt_of_le {n = p} {m = i} (ltb-false i p e))

-- a sequence that has the frames of another in their order, and k at p
module _ (f g : ℕ → Keyframe) (n p q : ℕ) (k : Keyframe) (low : p ≤ n) (high : q ≤ n) where
  front_long : length (take p (firsts f n)) ≡ p
  front_long = length-take-le p (firsts f n) (omega (arith, length-firsts f n))

  splice-long : length (spliced (firsts f n) p k q) ≡ p + suc (n - q)
  splice-long = length-append (take p (firsts f n)) (k ∷ drop q (firsts f n)) ∙ rw front_long (ap (λ (m : ℕ). p + suc m) (length-drop q (firsts f n) ∙ rw (length-firsts f n) refl))

  splice_front : (i : ℕ) → i < p → get_or (spliced (firsts f n) p k q) i no_frame ≡ f i
  splice_front i h =
      get_or-append (take p (firsts f n)) (k ∷ drop q (firsts f n)) no_frame i (omega (arith, front_long, h))
      ∙ (get_or-take p (firsts f n) i no_frame h ∙ firsts_at f n i no_frame (omega arith))

  splice-back : (j : ℕ) → q + j < n → get_or (spliced (firsts f n) p k q) (p + suc j) no_frame ≡ f (q + j)
  splice-back j h =
      let e = get_or-append-add (take p (firsts f n)) (k ∷ drop q (firsts f n)) (suc j) no_frame in
      (rw front_long at e) ∙ (get_or-drop q (firsts f n) j no_frame ∙ firsts_at f n (q + j) no_frame h)

  module _ (front : (i : ℕ) → i < p → g i ≡ f i) (here : g p ≡ k) (back : (j : ℕ) → q + j < n → g (p + suc j) ≡ f (q + j)) where
    pub firsts-spliced : firsts g (p + suc (n - q)) ≡ spliced (firsts f n) p k q
    firsts-spliced = ext_get_or no_frame (firsts g (p + suc (n - q))) (spliced (firsts f n) p k q) (length-firsts g (p + suc (n - q)) ∙ sym splice-long) (λ i h. each i (omega (arith, h, length-firsts g (p + suc (n - q)))))
      where
        each : (i : ℕ) → i < p + suc (n - q) → get_or (firsts g (p + suc (n - q))) i no_frame ≡ get_or (spliced (firsts f n) p k q) i no_frame
        each i h =
            firsts_at g (p + suc (n - q)) i no_frame h
            ∙ by_place (λ (i : ℕ). g i ≡ get_or (spliced (firsts f n) p k q) i no_frame) p (n - q) (λ i l. front i l ∙ sym (splice_front i l)) (here ∙ sym (get_or_at (take p (firsts f n)) k (drop q (firsts f n)) no_frame p front_long))
            (λ j l. back j (omega (arith, l)) ∙ sym (splice-back j (omega (arith, l)))) i h
