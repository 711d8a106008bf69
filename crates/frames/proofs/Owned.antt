-- A sample at a frame's own time equals, by ==, that frame's value, where that is a value of binary32. Assumes nothing.
use Prim.Native.Nat.{ℕ, ◌+◌, ◌-◌, ◌<◌, ◌≤◌}
use mathlib.Core.Path.{◌≡◌}
use mathlib.Core.Bool.{true, false}
use mathlib.Core.List.{List}
use mathlib.Core.Logic.{⊎_elim}
use native.Mathlib.Nat.{eq-zero-or-pos, eq-or-lt_of_le}
use native.Mathlib.Omega.{arith}
use borrow.Author.Tests.{ne_eqb}
use lib.Dec.{T, lit≤}
use lib.ListN.{length, get_or}
use lib.Ieee.{binary32, fits, lt, le, eq, is_nan}
use lib.Ieee.Bits.{is_true}
use Rattle.math.specs.Rounded.{◌⊖◌, ◌⊘◌, zero_f}
use Rattle.math.specs.Range.{is_finite, clamp01_of}
use Rattle.math.proofs.Order.{le-self, le-lt-chain, not_le_of_lt, eq_self}
use Rattle.math.proofs.Numbers.{finite_number}
use Rattle.math.proofs.Wholes.{power-is}
use Rattle.math.proofs.Zeros.{sub_self, zero-over}
use Rattle.math.proofs.Blends.{blend-zero}
use Rattle.math.proofs.Sizes.{at-most-finite, sub-at-most}
use Rattle.frames.specs.declared.frame.Keyframe.{Keyframe}
use Rattle.frames.specs.Limits.{frame_within, frames_within, before_all, no_frame}
use Rattle.frames.specs.Sampling.{frames_up_to, first_of, last_of, span_of, between_of, own_of, sample_of}
use Rattle.frames.proofs.Rising.{each-fine, rising, time-fine, time-number}
use Rattle.frames.proofs.Clocks.{clock-finite, time-clock}
use Rattle.frames.proofs.Picks.{passed-interval}
use Rattle.frames.proofs.Samples.{value-bound, span-finite, span-above, sample-first, sample-last}
use Rattle.frames.proofs.EasedAtZero.{zero-clamped, eased-zero}

-- the value of a frame is finite, and so is what lies between two
finite-value : (k : Keyframe) → frame_within k ≡ true → T (is_finite k.value)
finite-value k f = at-most-finite 16777216 k.value (value-bound k f)

finite-apart : (k l : Keyframe) → frame_within k ≡ true → frame_within l ≡ true → T (is_finite (l.value ⊖ k.value))
finite-apart k l f g =
    at-most-finite 33554432 (l.value ⊖ k.value) (sub-at-most binary32 33554432 (power-is binary32 25 (lit≤ tt)) 16777216 16777216 l.value k.value (lit≤ tt) (value-bound l g) (value-bound k f))

between-own : (k l : Keyframe) → frame_within k ≡ true → frame_within l ≡ true → T (fits binary32 k.value) → eq (between_of k l k.time).value k.value ≡ true
unfolding between_of
between-own k l f g F =
    let ck = time-clock k.time (time-fine k f) in
    let cl = time-clock l.time (time-fine l g) in
    let s = span_of (l.time ⊖ k.time) in
    let z : clamp01_of ((k.time ⊖ k.time) ⊘ s) ≡ zero_f = rw (sub_self k.time (clock-finite k.time ck), zero-over s (span-finite k.time k.time l.time ck ck cl) (span-above k.time k.time l.time ck ck cl)) zero-clamped in
    rw z (blend-zero k.value l.value _ F (finite-value k f) (finite-apart k l f g) (eased-zero k.easing))

module _ (l : List Keyframe) (fine : frames_within l ≡ true) (p : ℕ) (here : p < length l) (held : T (fits binary32 (get_or l p no_frame).value)) where
  same : eq (get_or l p no_frame).value (get_or l p no_frame).value ≡ true
  same = eq_self (get_or l p no_frame).value (finite_number (get_or l p no_frame).value (finite-value (get_or l p no_frame) (each-fine before_all l fine p here)))

  real : is_nan (get_or l p no_frame).time ≡ false
  real = time-number (get_or l p no_frame).time (time-fine (get_or l p no_frame) (each-fine before_all l fine p here))

  -- between the first frame and the last
  inner : 0 < p → p < length l - 1 → eq (sample_of l (get_or l p no_frame).time).value (get_or l p no_frame).value ≡ true
  unfolding sample_of
  inner low high =
      let x = (get_or l p no_frame).time in
      let first : T (lt (first_of l).time x) = rising before_all l fine 0 p low here in
      let last : T (lt x (last_of l).time) = rising before_all l fine p (length l - 1) high (omega arith) in
      let next : T (lt x (get_or l (p + 1) no_frame).time) = rising before_all l fine p (p + 1) (omega arith) (omega arith) in
      let up : T (lt zero_f x) = le-lt-chain zero_f (first_of l).time x (time-clock (first_of l).time (time-fine (first_of l) (each-fine before_all l fine 0 (omega arith)))).0 first in
      let e : frames_up_to x l ≡ p + 1 = passed-interval l x p fine (omega arith) (is_true (le x x) (le-self x real)) (not_le_of_lt x (get_or l (p + 1) no_frame).time next) in
      let d : p + 1 - 1 ≡ p = omega arith in
      rw (ne_eqb (length l) 1 (λ o. omega (arith, o, low, high)), is_true (lt zero_f x) up, is_true (lt x (last_of l).time) last, not_le_of_lt (first_of l).time x first, not_le_of_lt x (last_of l).time last, e, d)
      (between-own (get_or l p no_frame) (get_or l (p + 1) no_frame) (each-fine before_all l fine p here) (each-fine before_all l fine (p + 1) (omega arith)) held)

  at_first : p ≡ 0 → sample_of l (get_or l p no_frame).time ≡ own_of (get_or l p no_frame)
  at_first z =
      let r : T (le (get_or l p no_frame).time (get_or l p no_frame).time) = le-self (get_or l p no_frame).time real in
      rw z (sample-first l fine (omega arith) (first_of l).time (rw z at r))

  at_last : p ≡ length l - 1 → sample_of l (get_or l p no_frame).time ≡ own_of (get_or l p no_frame)
  at_last z =
      let r : T (le (get_or l p no_frame).time (get_or l p no_frame).time) = le-self (get_or l p no_frame).time real in
      rw z (sample-last l fine (omega arith) (last_of l).time (rw z at r))

  pub sample-own : eq (sample_of l (get_or l p no_frame).time).value (get_or l p no_frame).value ≡ true
  sample-own =
      let h : p ≤ length l - 1 = omega arith in
      ⊎_elim (λ (z : p ≡ 0). rw (at_first z) same) (λ (low : 0 < p). ⊎_elim (λ (z : p ≡ length l - 1). rw (at_last z) same) (λ (high : p < length l - 1). inner low high) (eq-or-lt_of_le h)) (eq-zero-or-pos p)
