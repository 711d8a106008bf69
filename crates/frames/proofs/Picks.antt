-- What `pick` is given and answers: on ascending times counting finds the interval of the definition, so that the value is the sample. Assumes nothing.
use Prim.Native.Nat.{ℕ, zero, suc, ◌+◌, ◌-◌, ◌<◌, ◌≤◌}
use mathlib.Core.Path.{◌≡◌, refl, sym, ap, ◌∙◌}
use mathlib.Core.Bool.{Bool, true, false, cond, false≢true}
use mathlib.Core.List.{List}
use mathlib.Core.Logic.{⊎_elim}
use native.Mathlib.Nat.{eq-or-lt_of_le}
use native.Mathlib.Omega.{arith}
use lib.Dec.{T, eqb}
use lib.ListN.{length, take, get_or}
use lib.Seq.{get_or-take, length-take-le}
use lib.Ieee.{Float, lt, le, is_nan}
use lib.Ieee.Bits.{is_true}
use borrow.Author.Tests.{eqb-true}
use denote.Floats.{passes as holds}
use Rattle.math.specs.Range.{max_zero_of}
use Rattle.math.proofs.Choice.{by-test}
use Rattle.math.proofs.Order.{le-numbers, le-self, lt-le, le-chain, lt_of_not_le}
use Rattle.bezier.specs.declared.types.Found.{Found}
use Rattle.frames.specs.declared.frame.Keyframe.{Keyframe}
use Rattle.frames.specs.Limits.{frames_within, before_all, no_frame}
use Rattle.frames.specs.Sampling.{frames_up_to, last_of, cut_of, between_of, own_of, pick_of, at_of, sample_of}
use Rattle.frames.specs.Inner.{times_of, counted}
use Rattle.frames.specs.Promises.{PassedInterval}
use Rattle.frames.proofs.Rising.{each-fine, rising, time-fine, time-number}
use Rattle.frames.proofs.Walks.{lead_is, lead-below}
use Rattle.frames.proofs.Counts.{counted-passed, counted-front}

pub passed-interval : PassedInterval
passed-interval l t i f h a z =
    lead_is (λ (k : Keyframe). le k.time t) l (i + 1) (omega arith)
    (λ j b. ⊎_elim (λ (e : j ≡ i). rw e a) (λ (e : j < i). is_true (le (get_or l j no_frame).time t) (earlier j e)) (eq-or-lt_of_le {n = j} {m = i} (omega (arith, b))))
    (λ _. z)
  where
    earlier : (j : ℕ) → j < i → T (le (get_or l j no_frame).time t)
    earlier j e =
        le-chain (get_or l j no_frame).time (get_or l i no_frame).time t (lt-le (get_or l j no_frame).time (get_or l i no_frame).time (rising before_all l f j i e (omega (arith, h))))
        (holds (le (get_or l i no_frame).time t) a)

-- only between the first and the last time are the two frames looked at
pick_same : (first last k l m n : Keyframe) (t : Float) → (le t first.time ≡ false → le last.time t ≡ false → (k ≡ m) × (l ≡ n)) → pick_of first last k l t ≡ pick_of first last m n t
pick_same first last k l m n t h = go (le t first.time) (le last.time t) h
  where
    go : (a b : Bool) → (a ≡ false → b ≡ false → (k ≡ m) × (l ≡ n))
        → cond a (own_of first) (cond b (own_of last) (between_of k l t)) ≡ cond a (own_of first) (cond b (own_of last) (between_of m n t))
    go true b h = refl
    go false true h = refl
    go false false h =
        let e = h refl refl in
        rw (e.0, e.1)

-- the time that is sampled is at most the last time
cut_most : (x top : Float) → is_nan top ≡ false → T (le (cut_of x top) top)
cut_most x top n = by-test (λ (z : Float). T (le z top)) (lt x top) x top (λ h. lt-le x top (holds (lt x top) h)) (λ _. le-self top n)

module _ (fs : List Keyframe) (n : ℕ) (some : 1 ≤ n) (fit : n ≤ length fs) (fine : frames_within (take n fs) ≡ true) where
  long : length (take n fs) ≡ n
  long = length-take-le n fs fit

  at : (i : ℕ) → i < n → get_or (take n fs) i no_frame ≡ get_or fs i no_frame
  at i h = get_or-take n fs i no_frame h

  number : (i : ℕ) → i < n → is_nan (get_or fs i no_frame).time ≡ false
  number i h = time-number (get_or fs i no_frame).time (time-fine (get_or fs i no_frame) (rw (at i h) at (each-fine before_all (take n fs) fine i (omega (arith, long)))))

  last-at : last_of (take n fs) ≡ get_or fs (n - 1) no_frame
  last-at = rw long (at (n - 1) (omega arith))

  module _ (t : Float) (real : is_nan t ≡ false) where
    pub started : le t (get_or fs 0 no_frame).time ≡ false → le (get_or fs 0 no_frame).time t ≡ true
    started a = is_true (le (get_or fs 0 no_frame).time t) (lt-le (get_or fs 0 no_frame).time t (lt_of_not_le t (get_or fs 0 no_frame).time real (number 0 some) a))

    -- where t lies between the first and the last time, one frame more is passed than i
    abbrev pub Place : ℕ → Type 0
    Place i = le t (get_or fs 0 no_frame).time ≡ false → le (get_or fs (n - 1) no_frame).time t ≡ false → frames_up_to t (take n fs) ≡ i + 1

    -- so it is with what is counted
    found : (starts : List Float) → take n starts ≡ times_of (take n fs) → Place (counted starts t (n - 1))
    found starts front a z =
        let start = started a in
        let m : 1 < length (take n fs) = rw long (apart n some z start) in
        let e = counted-passed t before_all (take n fs) fine m (rw (at 0 some) start) (rw last-at z) in
        rw (counted-front t starts (times_of (take n fs)) n front) (rw long at e)
      where
        apart : (n : ℕ) → 1 ≤ n → le (get_or fs (n - 1) no_frame).time t ≡ false → le (get_or fs 0 no_frame).time t ≡ true → 1 < n
        apart zero s z b = absurd (omega (arith, s))
        apart (suc zero) s z b = absurd (false≢true (sym z ∙ b))
        apart (suc (suc n)) s z b = omega arith

    same : (i : ℕ) → le (get_or fs (n - 1) no_frame).time t ≡ false → frames_up_to t (take n fs) ≡ i + 1 → (get_or fs i no_frame ≡ get_or (take n fs) (frames_up_to t (take n fs) - 1) no_frame) × (get_or fs (i + 1) no_frame ≡ get_or (take n fs) (frames_up_to t (take n fs)) no_frame)
    same i z e =
        let m : frames_up_to t (take n fs) ≤ n - 1 = lead-below (λ (k : Keyframe). le k.time t) (take n fs) (n - 1) (omega (arith, long)) (rw (at (n - 1) (omega arith)) z) in
        let h : i + 1 < n = omega (arith, m, e) in
        let d : i + 1 - 1 ≡ i = omega arith in
        (rw (e, d) (sym (at i (omega (arith, h)))), rw e (sym (at (i + 1) h)))

    at-time : (i : ℕ) → Place i → pick_of (get_or fs 0 no_frame) (get_or fs (n - 1) no_frame) (get_or fs i no_frame) (get_or fs (i + 1) no_frame) t ≡ at_of (take n fs) t
    at-time i p =
        pick_same (get_or fs 0 no_frame) (get_or fs (n - 1) no_frame) _ _ (get_or (take n fs) (frames_up_to t (take n fs) - 1) no_frame) (get_or (take n fs) (frames_up_to t (take n fs)) no_frame) t (λ a z. same i z (p a z))
        ∙ rw (at 0 some, last-at)

  -- what `pick` answers at the time that is sampled is the sample
  module _ (secs t : Float) (cut : t ≡ cut_of (max_zero_of secs) (get_or fs (n - 1) no_frame).time) where
    pub real : is_nan t ≡ false
    real = rw cut (le-numbers (cut_of (max_zero_of secs) (get_or fs (n - 1) no_frame).time) (get_or fs (n - 1) no_frame).time (cut_most (max_zero_of secs) (get_or fs (n - 1) no_frame).time (number (n - 1) (omega arith)))).0

    single : n ≡ 1 → le t (get_or fs 0 no_frame).time ≡ true
    single e =
        let m : T (le t (get_or fs (n - 1) no_frame).time) = rw cut (cut_most (max_zero_of secs) (get_or fs (n - 1) no_frame).time (number (n - 1) (omega arith))) in
        let d : n - 1 ≡ 0 = omega arith in
        is_true (le t (get_or fs 0 no_frame).time) (rw d at m)

    pub picked : (i : ℕ) → Place t real i → pick_of (get_or fs 0 no_frame) (get_or fs (n - 1) no_frame) (get_or fs i no_frame) (get_or fs (i + 1) no_frame) t ≡ sample_of (take n fs) secs
    unfolding sample_of
    picked i p =
        by-test (λ (v : Found). pick_of (get_or fs 0 no_frame) (get_or fs (n - 1) no_frame) (get_or fs i no_frame) (get_or fs (i + 1) no_frame) t ≡ v) (eqb (length (take n fs)) 1) _ _
        (λ e. let o : n ≡ 1 = sym long ∙ eqb-true (length (take n fs)) 1 e in rw (single o, at 0 some))
        (λ e. at-time t real i p ∙ ap (at_of (take n fs)) (cut ∙ rw last-at))

  -- the same, of what the calls on the way answer
  pub picked-by : (secs x t : Float) (v : Found) (starts : List Float) (low : ℕ) → x ≡ max_zero_of secs → t ≡ cut_of x (get_or fs (n - 1) no_frame).time → take n starts ≡ times_of (take n fs) → low ≡ counted starts t (n - 1)
      → v ≡ pick_of (get_or fs 0 no_frame) (get_or fs (n - 1) no_frame) (get_or fs low no_frame) (get_or fs (low + 1) no_frame) t
      → v ≡ sample_of (take n fs) secs
  picked-by secs x t v starts low ex et es el ev =
      let c : t ≡ cut_of (max_zero_of secs) (get_or fs (n - 1) no_frame).time = rw ex at et in
      ev ∙ (rw el (picked secs t c (counted starts t (n - 1)) (found t (real secs t c) starts es)))
