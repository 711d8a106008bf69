-- Frames within their limits: each is, and their times ascend. Assumes nothing.
use Prim.Native.Nat.{ℕ, zero, suc, ◌<◌}
use mathlib.Core.Path.{◌≡◌}
use mathlib.Core.Bool.{true, false, ◌&&◌}
use mathlib.Core.List.{List, [], ◌∷◌}
use native.Mathlib.Omega.{arith}
use lib.Dec.{T}
use lib.ListN.{length, get_or}
use lib.Ieee.{Float, lt, le, is_nan}
use denote.Floats.{passes as holds}
use Rattle.math.specs.Rounded.{top_f}
use Rattle.math.specs.Range.{is_value}
use Rattle.math.proofs.Choice.{and_both}
use Rattle.math.proofs.Order.{le-numbers, lt-le, lt-le-chain}
use Rattle.easing.specs.Apply.{fits_record_of}
use Rattle.frames.specs.declared.frame.Keyframe.{Keyframe}
use Rattle.frames.specs.Limits.{is_plus, is_time, frame_within, frames_after, no_frame}

pub time-fine : (k : Keyframe) → frame_within k ≡ true → is_time k.time ≡ true
unfolding frame_within
time-fine k h = (and_both _ _ (and_both (is_time k.time && is_value k.value) (fits_record_of k.easing) h).0).0

pub value-fine : (k : Keyframe) → frame_within k ≡ true → is_value k.value ≡ true
unfolding frame_within
value-fine k h = (and_both (is_time k.time) (is_value k.value) (and_both (is_time k.time && is_value k.value) (fits_record_of k.easing) h).0).1

pub easing-fine : (k : Keyframe) → frame_within k ≡ true → fits_record_of k.easing ≡ true
unfolding frame_within
easing-fine k h = (and_both (is_time k.time && is_value k.value) (fits_record_of k.easing) h).1

pub time-top : (t : Float) → is_time t ≡ true → T (le t top_f)
unfolding is_time
time-top t h = holds (le t top_f) (and_both (is_plus t) (le t top_f) h).1

pub time-number : (t : Float) → is_time t ≡ true → is_nan t ≡ false
time-number t h = (le-numbers t top_f (time-top t h)).0

module _ (p : Float) (k : Keyframe) (ks : List Keyframe) (h : frames_after p (k ∷ ks) ≡ true) where
  pub head-fine : frame_within k ≡ true
  unfolding frames_after
  head-fine = (and_both (frame_within k) (lt p k.time) (and_both (frame_within k && lt p k.time) (frames_after k.time ks) h).0).0

  pub head-above : T (lt p k.time)
  unfolding frames_after
  head-above = holds (lt p k.time) (and_both (frame_within k) (lt p k.time) (and_both (frame_within k && lt p k.time) (frames_after k.time ks) h).0).1

  pub rest-fine : frames_after k.time ks ≡ true
  unfolding frames_after
  rest-fine = (and_both (frame_within k && lt p k.time) (frames_after k.time ks) h).1

pub each-fine : (p : Float) (l : List Keyframe) → frames_after p l ≡ true → (i : ℕ) → i < length l → frame_within (get_or l i no_frame) ≡ true
each-fine p [] h i b = absurd (omega (arith, b))
each-fine p (k ∷ ks) h zero b = head-fine p k ks h
each-fine p (k ∷ ks) h (suc i) b = each-fine k.time ks (rest-fine p k ks h) i (omega (arith, b))

pub above : (p : Float) (l : List Keyframe) → frames_after p l ≡ true → (i : ℕ) → i < length l → T (lt p (get_or l i no_frame).time)
above p [] h i b = absurd (omega (arith, b))
above p (k ∷ ks) h zero b = head-above p k ks h
above p (k ∷ ks) h (suc i) b =
    lt-le-chain p k.time (get_or ks i no_frame).time (head-above p k ks h)
    (lt-le k.time (get_or ks i no_frame).time (above k.time ks (rest-fine p k ks h) i (omega (arith, b))))

pub rising : (p : Float) (l : List Keyframe) → frames_after p l ≡ true → (i j : ℕ) → i < j → j < length l → T (lt (get_or l i no_frame).time (get_or l j no_frame).time)
rising p [] h i j a b = absurd (omega (arith, b))
rising p (k ∷ ks) h zero zero a b = absurd (omega (arith, a))
rising p (k ∷ ks) h (suc i) zero a b = absurd (omega (arith, a))
rising p (k ∷ ks) h zero (suc j) a b = above k.time ks (rest-fine p k ks h) j (omega (arith, b))
rising p (k ∷ ks) h (suc i) (suc j) a b = rising k.time ks (rest-fine p k ks h) i j (omega (arith, a)) (omega (arith, b))
