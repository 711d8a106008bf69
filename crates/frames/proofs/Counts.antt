-- Counting: what one more place adds, and that on ascending times the count is the place of the interval. Assumes nothing.
use Prim.Native.Nat.{ℕ, zero, suc, ◌+◌, ◌-◌, ◌<◌, ◌≤◌}
use mathlib.Core.Path.{◌≡◌, refl, sym, ap, ◌∙◌}
use mathlib.Core.Bool.{Bool, true, false, cond, false≢true}
use mathlib.Core.List.{List, [], ◌∷◌}
use native.Mathlib.Numerals.{add-one}
use native.Mathlib.Omega.{arith}
use lib.ListN.{length, take, drop, get_or}
use lib.Seq.{take-take}
use lib.Ieee.{Float, nan, le}
use lib.Ieee.Bits.{is_true}
use mir.Syntax.{Width}
use mir.Val.{Fits, bool_byte}
use denote.Floats.{passes as holds}
use Rattle.math.proofs.Choice.{by-test}
use Rattle.math.proofs.Order.{lt-le, le-chain}
use Rattle.math.proofs.Tallies.{byte-below, byte_more}
use Rattle.frames.specs.declared.frame.Keyframe.{Keyframe}
use Rattle.frames.specs.Limits.{frames_after, no_frame}
use Rattle.frames.specs.Sampling.{leading, frames_up_to, first_of, last_of, count_of}
use Rattle.frames.specs.Inner.{times_of, counted}
use Rattle.frames.proofs.Rising.{rest-fine, head-above}

pub byte_fits : (w : Width) (b : Bool) (c i : ℕ) → c < i → Fits w i → Fits w (c + bool_byte b)
byte_fits w b c i h m = omega (arith, byte-below b c i h)

module _ (q : Float → Bool) where
  next : (l : List Float) (m i : ℕ) → i < m → (length l ≤ i → q nan ≡ false) → count_of q (drop i (take m l)) ≡ bool_byte (q (get_or l i nan)) + count_of q (drop (suc i) (take m l))
  unfolding count_of
  next l zero i h e = absurd (omega (arith, h))
  next [] (suc m) zero h e = rw (e (omega arith))
  next [] (suc m) (suc i) h e = rw (e (omega arith))
  next (x ∷ xs) (suc m) zero h e = byte_more (q x) (count_of q (take m xs))
  next (x ∷ xs) (suc m) (suc i) h e = next xs m i (omega (arith, h)) (λ k. e (omega (arith, k)))

  -- of the places from i to m, the first and the rest; a place behind the list must count nothing
  pub count_next : (l : List Float) (m i : ℕ) → i < m → (length l ≤ i → q nan ≡ false) → count_of q (drop i (take m l)) ≡ bool_byte (q (get_or l i nan)) + count_of q (drop (i + 1) (take m l))
  count_next l m i h e = rw add-one (next l m i h e)

  pub count_past : (l : List Float) (m i : ℕ) → m ≤ i → count_of q (drop i (take m l)) ≡ 0
  unfolding count_of
  count_past l zero zero h = refl
  count_past l zero (suc i) h = refl
  count_past l (suc m) zero h = absurd (omega (arith, h))
  count_past [] (suc m) (suc i) h = refl
  count_past (x ∷ xs) (suc m) (suc i) h = count_past xs m i (omega (arith, h))

  pub count_most : (l : List Float) → count_of q l ≤ length l
  unfolding count_of
  count_most [] = omega arith
  count_most (x ∷ l) =
      let r = count_most l in
      by-test (λ (n : ℕ). n ≤ suc (length l)) (q x) (suc (count_of q l)) (count_of q l) (λ _. omega arith) (λ _. omega arith)

module _ (t : Float) where
  pub not-nan : le nan t ≡ false
  unfolding le
  not-nan = refl

  -- what is past t stays so at later times
  still-past : (p : Float) (k : Keyframe) (ks : List Keyframe) → frames_after p (k ∷ ks) ≡ true → le p t ≡ false → le k.time t ≡ false
  still-past p k ks f z = go (le k.time t) refl
    where
      go : (b : Bool) → le k.time t ≡ b → b ≡ false
      go true e = absurd (false≢true (sym z ∙ is_true (le p t) (le-chain p k.time t (lt-le p k.time (head-above p k ks f)) (holds (le k.time t) e))))
      go false e = refl

  -- without the last, which is past t, the count is how many from the front are passed
  front-passed : (p : Float) (k : Keyframe) (ks : List Keyframe) → frames_after p (k ∷ ks) ≡ true → le (get_or (k ∷ ks) (length ks) no_frame).time t ≡ false → count_of (λ (x : Float). le x t) (take (length ks) (times_of (k ∷ ks))) ≡ frames_up_to t (k ∷ ks)
  unfolding count_of leading
  front-passed p k [] f z = rw z
  front-passed p k (j ∷ ks) f z =
      let r = front-passed k.time j ks (rest-fine p k (j ∷ ks) f) z in
      go (le k.time t) refl r
    where
      go : (b : Bool) → le k.time t ≡ b → count_of (λ (x : Float). le x t) (take (length ks) (times_of (j ∷ ks))) ≡ frames_up_to t (j ∷ ks)
          → cond b (suc (count_of (λ (x : Float). le x t) (take (length ks) (times_of (j ∷ ks))))) (count_of (λ (x : Float). le x t) (take (length ks) (times_of (j ∷ ks)))) ≡ cond b (suc (frames_up_to t (j ∷ ks))) 0
      go true e r = ap suc r
      go false e r = r ∙ rw (still-past k.time j ks (rest-fine p k (j ∷ ks) f) e) refl

  -- between the first time and the last one frame more is passed than is counted: the first
  pub counted-passed : (p : Float) (l : List Keyframe) → frames_after p l ≡ true → 1 < length l → le (first_of l).time t ≡ true → le (last_of l).time t ≡ false → frames_up_to t l ≡ counted (times_of l) t (length l - 1) + 1
  unfolding leading
  counted-passed p [] f h a z = absurd (omega (arith, h))
  counted-passed p (k ∷ []) f h a z = absurd (omega (arith, h))
  counted-passed p (k ∷ j ∷ ks) f h a z =
      let e : suc (suc (length ks)) - 1 ≡ suc (length ks) = omega arith in
      rw (a, e, add-one) (ap suc (sym (front-passed k.time j ks (rest-fine p k (j ∷ ks) f) (rw e at z))))

-- only the first n places are looked at
pub counted-front : (t : Float) (l m : List Float) (n : ℕ) → take n l ≡ m → counted l t (n - 1) ≡ counted m t (n - 1)
counted-front t l m n e = ap (λ (r : List Float). count_of (λ (x : Float). le x t) (drop 1 r)) (sym (take-take (n - 1) n l (omega arith)) ∙ ap (take (n - 1)) e)
