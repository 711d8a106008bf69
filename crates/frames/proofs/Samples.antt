-- Samples: before and after all frames, that every sample is finite, and that no more can be unsettled than there are. Assumes nothing.
use Rattle.std.specs.Prelude.{Err, Ok, Result}
use Prim.Native.Nat.{ℕ, ◌-◌, ◌<◌, ◌≤◌}
use mathlib.Core.Path.{◌≡◌, refl}
use mathlib.Core.Bool.{true, false}
use mathlib.Core.List.{List}
use native.Mathlib.Omega.{arith}
use borrow.Author.Tests.{eqb-true, eqb-false}
use lib.Dec.{T, eqb, lit≤}
use lib.ListN.{length, get_or}
use lib.Ieee.{Float, binary32, lt, le, is_nan, of_bits}
use lib.Ieee.Bits.{is_true}
use denote.Floats.{passes as holds}
use Rattle.math.specs.Rounded.{◌⊖◌, ◌⊘◌, zero_f, epsilon_f}
use Rattle.math.specs.Range.{is_finite, is_value, max_zero_of, Within, AtMost}
use Rattle.math.proofs.Choice.{by-test}
use Rattle.math.proofs.Order.{le-numbers, le-self, le-chain, lt-le, lt-le-chain, not-lt-of-le, not_le_of_lt, le_of_not_lt, lt_of_not_le, lt-not-eq}
use Rattle.math.proofs.Numbers.{div-number}
use Rattle.math.proofs.Upward.{max-zero-number}
use Rattle.math.proofs.Sizes.{at-most-finite, at-most-more, sub-near}
use Rattle.math.proofs.Bounded.{zero-most, value-most, blend-most}
use Rattle.math.proofs.Ranges.{clamped}
use Rattle.math.proofs.Wholes.{power-is}
use Rattle.bezier.specs.declared.types.Found.{Found}
use Rattle.easing.specs.declared.kinds.Easing.{Easing}
use Rattle.easing.specs.Apply.{apply_of}
use Rattle.easing.proofs.Finite.{apply-bounded}
use Rattle.frames.specs.declared.frame.Keyframe.{Keyframe}
use Rattle.frames.specs.Limits.{frame_within, frames_within, before_all, no_frame}
use Rattle.frames.specs.Sampling.{frames_up_to, first_of, last_of, cut_of, span_of, found_in, eased_of, local_progress, between_of, own_of, at_of, sample_of, unsettled_of}
use Rattle.frames.specs.Promises.{UnsettledMost}
use Rattle.frames.proofs.Rising.{each-fine, rising, time-fine, time-number, value-fine}
use Rattle.frames.proofs.Clocks.{Clock, clock-most, time-clock}
use Rattle.frames.proofs.Walks.{lead-some, lead-below}
use Rattle.frames.proofs.Counts.{count_most}
use Rattle.refusal.specs.declared.Refusal.{Refusal}

epsilon-finite : T (is_finite epsilon_f)
unfolding of_bits
epsilon-finite = tt

epsilon-above : T (lt zero_f epsilon_f)
unfolding lt of_bits
epsilon-above = tt

-- how far through a span t is
module _ (t x y : Float) (ct : Clock t) (cx : Clock x) (cy : Clock y) where
  apart-finite : (u v : Float) → Clock u → Clock v → T (is_finite (u ⊖ v))
  apart-finite u v cu cv = at-most-finite 16777216 (u ⊖ v) (sub-near binary32 16777216 (power-is binary32 24 (lit≤ tt)) u v cu.0 cv.0 (clock-most u cu) (clock-most v cv))

  pub span-finite : T (is_finite (span_of (y ⊖ x)))
  span-finite = by-test (λ (z : Float). T (is_finite z)) (lt epsilon_f (y ⊖ x)) (y ⊖ x) epsilon_f (λ _. apart-finite y x cy cx) (λ _. epsilon-finite)

  pub span-above : T (lt zero_f (span_of (y ⊖ x)))
  span-above = by-test (λ (z : Float). T (lt zero_f z)) (lt epsilon_f (y ⊖ x)) (y ⊖ x) epsilon_f (λ h. lt-le-chain zero_f epsilon_f (y ⊖ x) epsilon-above (lt-le epsilon_f (y ⊖ x) (holds (lt epsilon_f (y ⊖ x)) h))) (λ _. epsilon-above)

  pub local-within : Within (local_progress x y t)
  local-within = clamped ((t ⊖ x) ⊘ span_of (y ⊖ x)) (div-number binary32 (t ⊖ x) (span_of (y ⊖ x)) (apart-finite t x ct cx) span-finite (lt-not-eq zero_f (span_of (y ⊖ x)) span-above))

pub value-bound : (k : Keyframe) → frame_within k ≡ true → AtMost 16777216 k.value
value-bound k f = value-most k.value (holds (is_value k.value) (value-fine k f))

eased-most : (e : Easing) (p : Float) → AtMost 134217728 (eased_of e p).value
eased-most e p = go (apply_of e p) refl
  where
    go : (r : Result Found Refusal) → apply_of e p ≡ r → AtMost 134217728 (found_in r).value
    go (Ok f) h = apply-bounded e p f h
    go (Err r) h = zero-most 134217728

abbrev Bounded : Found → Type 0
Bounded f = AtMost 9007199254740992 f.value

between-most : (k l : Keyframe) (t : Float) → frame_within k ≡ true → frame_within l ≡ true → Bounded (between_of k l t)
unfolding between_of
between-most k l t f g =
    let c = (eased_of k.easing (local_progress k.time l.time t)).value in
    blend-most k.value l.value c (value-bound k f) (value-bound l g) (eased-most k.easing (local_progress k.time l.time t))

-- the time that is sampled: from 0 to the last time, or that time
module _ (l : List Keyframe) (fine : frames_within l ≡ true) (some : 0 < length l) where
  frame-fine : (i : ℕ) → i < length l → frame_within (get_or l i no_frame) ≡ true
  frame-fine i h = each-fine before_all l fine i h

  last-place : length l - 1 < length l
  last-place = omega (arith, some)

  first-clock : Clock (first_of l).time
  first-clock = time-clock (first_of l).time (time-fine (first_of l) (frame-fine 0 some))

  last-clock : Clock (last_of l).time
  last-clock = time-clock (last_of l).time (time-fine (last_of l) (frame-fine (length l - 1) last-place))

  number-first : is_nan (first_of l).time ≡ false
  number-first = time-number (first_of l).time (time-fine (first_of l) (frame-fine 0 some))

  number-last : is_nan (last_of l).time ≡ false
  number-last = time-number (last_of l).time (time-fine (last_of l) (frame-fine (length l - 1) last-place))

  -- the frames beside a time between the first and the last
  module _ (t : Float) (real : is_nan t ≡ false) (a : le t (first_of l).time ≡ false) (z : le (last_of l).time t ≡ false) where
    first-passed : le (first_of l).time t ≡ true
    first-passed = is_true (le (first_of l).time t) (lt-le (first_of l).time t (lt_of_not_le t (first_of l).time real number-first a))

    passed-low : 0 < frames_up_to t l
    passed-low = lead-some (λ (k : Keyframe). le k.time t) l some first-passed

    passed-high : frames_up_to t l ≤ length l - 1
    passed-high = lead-below (λ (k : Keyframe). le k.time t) l (length l - 1) last-place z

  cut-number : (secs : Float) → is_nan (cut_of (max_zero_of secs) (last_of l).time) ≡ false
  cut-number secs = by-test (λ (x : Float). is_nan x ≡ false) (lt (max_zero_of secs) (last_of l).time) (max_zero_of secs) (last_of l).time (λ _. max-zero-number secs) (λ _. number-last)

  -- sampling answers are finite
  sample-most : (secs : Float) → Bounded (sample_of l secs)
  unfolding sample_of
  sample-most secs =
      let t = cut_of (max_zero_of secs) (last_of l).time in
      let first : Bounded (own_of (first_of l)) = at-most-more 16777216 9007199254740992 (first_of l).value (lit≤ tt) (value-bound (first_of l) (frame-fine 0 some)) in
      let last : Bounded (own_of (last_of l)) = at-most-more 16777216 9007199254740992 (last_of l).value (lit≤ tt) (value-bound (last_of l) (frame-fine (length l - 1) last-place)) in
      by-test Bounded (eqb (length l) 1) (own_of (first_of l)) (at_of l t) (λ _. first)
      (λ _.
      by-test Bounded (le t (first_of l).time) (own_of (first_of l)) _ (λ _. first)
      (λ a.
      by-test Bounded (le (last_of l).time t) (own_of (last_of l)) (between_of (get_or l (frames_up_to t l - 1) no_frame) (get_or l (frames_up_to t l) no_frame) t) (λ _. last)
      (λ z.
      let low = passed-low t (cut-number secs) a z in
      let high = passed-high t (cut-number secs) a z in
      between-most (get_or l (frames_up_to t l - 1) no_frame) (get_or l (frames_up_to t l) no_frame) t (frame-fine (frames_up_to t l - 1) (omega (arith, low, high, some))) (frame-fine (frames_up_to t l) (omega (arith, high, some))))))

  pub sample-finite : (secs : Float) → T (is_finite (sample_of l secs).value)
  sample-finite secs = at-most-finite 9007199254740992 (sample_of l secs).value (sample-most secs)

  -- at or before the first time
  pub sample-first : (secs : Float) → T (le secs (first_of l).time) → sample_of l secs ≡ own_of (first_of l)
  unfolding sample_of
  sample-first secs h =
      let x : T (le (max_zero_of secs) (first_of l).time) = by-test (λ (z : Float). T (le z (first_of l).time)) (lt zero_f secs) secs zero_f (λ _. h) (λ _. first-clock.0) in
      let t : T (le (cut_of (max_zero_of secs) (last_of l).time) (first_of l).time) = by-test (λ (z : Float). T (le z (first_of l).time)) (lt (max_zero_of secs) (last_of l).time) (max_zero_of secs) (last_of l).time (λ _. x) (λ k. le-chain (last_of l).time (max_zero_of secs) (first_of l).time (le_of_not_lt (max_zero_of secs) (last_of l).time (le-numbers (max_zero_of secs) (first_of l).time x).0 number-last k) x) in
      by-test (λ (f : Found). f ≡ own_of (first_of l)) (eqb (length l) 1) (own_of (first_of l)) (at_of l (cut_of (max_zero_of secs) (last_of l).time)) (λ _. refl)
      (λ _. rw (is_true (le (cut_of (max_zero_of secs) (last_of l).time) (first_of l).time) t))

  -- at or after the last
  after_last : (secs : Float) → T (le (last_of l).time secs) → cut_of (max_zero_of secs) (last_of l).time ≡ (last_of l).time
  after_last secs h =
      let n = (le-numbers (last_of l).time secs h).1 in
      let x : T (le (last_of l).time (max_zero_of secs)) = by-test (λ (z : Float). T (le (last_of l).time z)) (lt zero_f secs) secs zero_f (λ _. h) (λ k. le-chain (last_of l).time secs zero_f h (le_of_not_lt zero_f secs (le-numbers zero_f (last_of l).time last-clock.0).0 n k)) in
      rw (not-lt-of-le (last_of l).time (max_zero_of secs) x)

  pub sample-last : (secs : Float) → T (le (last_of l).time secs) → sample_of l secs ≡ own_of (last_of l)
  unfolding sample_of
  sample-last secs h =
      by-test (λ (f : Found). f ≡ own_of (last_of l)) (eqb (length l) 1) (own_of (first_of l)) (at_of l (cut_of (max_zero_of secs) (last_of l).time))
      (λ e.
      let d : length l - 1 ≡ 0 = omega (arith, eqb-true (length l) 1 e) in
      rw d)
      (λ e.
      let one : length l ≡ 1 → ⊥ = eqb-false (length l) 1 e in
      let b : 0 < length l - 1 = omega (arith, one, some) in
      let f : le (last_of l).time (first_of l).time ≡ false = not_le_of_lt (first_of l).time (last_of l).time (rising before_all l fine 0 (length l - 1) b last-place) in
      rw (after_last secs h, f, is_true (le (last_of l).time (last_of l).time) (le-self (last_of l).time number-last)))

pub unsettled-most : UnsettledMost
unfolding unsettled_of
unsettled-most l times = count_most _ times
