-- What frames within their limits say of their words: no NaN stands there, and the patterns of their times are in the times' order. What is sampled is a time like theirs. Assumes nothing.
use Prim.Native.Nat.{ℕ, ◌+◌, ◌-◌, ◌*◌, ◌<◌, ◌≤◌}
use native.Mathlib.Omega.{arith}
use mathlib.Core.Path.{◌≡◌, refl, sym, ◌∙◌}
use mathlib.Core.Bool.{Bool, true, false, false≢true}
use mathlib.Core.List.{List}
use lib.Dec.{T, leb}
use lib.ListN.{length, length-drop, length-map, take, drop}
use lib.Seq.{get_or-take, length-take-le}
use lib.Ieee.{Float, nan, inf, fin, binary32, fits, is_nan, lt, le}
use lib.Ieee.Bits.{is_true, to_bits-lt}
use borrow.Author.Tests.{leb-true, leb-false}
use denote.Floats.{passes as holds}
use Rattle.math.specs.Bits.{bits_of}
use Rattle.math.specs.Range.{Within, is_value, max_zero_of}
use Rattle.math.specs.Rounded.{f32, zero_f, top_f}
use Rattle.math.proofs.Choice.{by-test}
use Rattle.math.proofs.Order.{le-numbers, lt-le, le-chain, lt_of_not_le}
use Rattle.math.proofs.Ordered.{in_order, at_most}
use Rattle.math.proofs.Patterns.{float_back}
use Rattle.frames.specs.declared.frame.Keyframe.{Keyframe}
use Rattle.frames.specs.Inner.{counted, times_of}
use Rattle.frames.specs.Limits.{before_all, frame_within, frames_within, is_time, no_frame}
use Rattle.frames.specs.Sampling.{cut_of, local_progress}
use Rattle.frames.proofs.Clocks.{later-time, time-clock}
use Rattle.frames.proofs.Counts.{count_most}
use Rattle.frames.proofs.Rising.{each-fine, time-fine, time-number, time-top, value-fine}
use Rattle.frames.proofs.Samples.{local-within}
use Rattle.frames.proofs.Stamps.{time-test}
use Rattle.words.specs.Lent.{word_at, float_at, frame_at}
use Rattle.words.specs.Tracks.{frame_from}
use Rattle.track_words.specs.Reading.{frame_in, frames_of}
use Rattle.track_words.proofs.Placed.{frames-long, frame-at}

-- the pattern of a time
low_word : (n : ℕ) → n < 0x1_0000_0000 → is_time (f32 n) ≡ true → n ≤ 0x4b80_0000
low_word n h t = leb-true n 0x4b80_0000 (sym (time-test n h) ∙ t)

low_bits : (t : Float) → T (fits binary32 t) → is_time t ≡ true → bits_of t ≤ 0x4b80_0000
low_bits t f h = low_word (bits_of t) (to_bits-lt binary32 t f) (rw (float_back t f) h)

value-number : (x : Float) → is_value x ≡ true → is_nan x ≡ false
unfolding is_nan
value-number nan h = (le-numbers nan top_f (holds (le nan top_f) h)).0
value-number (inf s) h = refl
value-number (fin s m e) h = refl

-- neither word of a frame within its limits is a NaN's
module _ (words : List ℕ) (i : ℕ) (fine : frame_within (frame_in words i) ≡ true) where
  pub time-real : is_nan (float_at words (8 * i)) ≡ false
  unfolding frame_in frame_from frame_at
  time-real = time-number (float_at words (8 * i)) (time-fine (frame_in words i) fine)

  pub value-real : is_nan (float_at words (8 * i + 1)) ≡ false
  unfolding frame_in frame_from frame_at
  value-real = value-number (float_at words (8 * i + 1)) (value-fine (frame_in words i) fine)

-- how far a time is between two frames
pub along-within : (words : List ℕ) (i j : ℕ) → frame_within (frame_in words i) ≡ true → frame_within (frame_in words j) ≡ true → (t : Float) → is_time t ≡ true → Within (local_progress (float_at words (8 * i)) (float_at words (8 * j)) t)
unfolding frame_in frame_from frame_at
along-within words i j f g t s = local-within t _ _ (time-clock t s) (time-clock _ (time-fine (frame_in words i) f)) (time-clock _ (time-fine (frame_in words j) g))

-- a time that is cut at another
cut-time : (secs last : Float) → is_time last ≡ true → is_time (cut_of (max_zero_of secs) last) ≡ true
cut-time secs last h = by-test (λ (x : Float). is_time x ≡ true) (lt (max_zero_of secs) last) (max_zero_of secs) last (λ b. up (holds (lt (max_zero_of secs) last) b)) (λ _. h)
  where
    up : T (lt (max_zero_of secs) last) → is_time (max_zero_of secs) ≡ true
    up =
        by-test (λ (x : Float). T (lt x last) → is_time x ≡ true) (lt zero_f secs) secs zero_f
        (λ b l. later-time zero_f secs (holds (le zero_f zero_f) (in_order 0 0 (omega arith) (omega arith))) (holds (lt zero_f secs) b) (le-chain secs last top_f (lt-le secs last l) (time-top last h)))
        (λ _ _. time-test 0 (omega arith))

module _ (words : List ℕ) (n : ℕ) (most : n ≤ 64) (fine : frames_within (take n (frames_of words)) ≡ true) where
  pub frame-in : (i : ℕ) → i < n → frame_within (frame_in words i) ≡ true
  frame-in i h =
      let fit : n ≤ length (frames_of words) = omega (arith, frames-long words) in
      rw (get_or-take n (frames_of words) i no_frame h, frame-at words i (omega arith)) at (each-fine before_all (take n (frames_of words)) fine i (omega (arith, length-take-le n (frames_of words) fit)))

  time-in : (i : ℕ) → i < n → is_time (float_at words (8 * i)) ≡ true
  unfolding frame_in frame_from frame_at
  time-in i h = time-fine (frame_in words i) (frame-in i h)

  -- what is sampled is a time
  pub sampled : 1 ≤ n → (secs x last t : Float) → x ≡ max_zero_of secs → last ≡ float_at words (8 * (n - 1)) → t ≡ cut_of x last → is_time t ≡ true
  sampled some secs x last t ex el et = rw (et, ex, el) (cut-time secs (float_at words (8 * (n - 1))) (time-in (n - 1) (omega arith)))

  -- between the first time and the last there is a frame behind those that are counted
  pub inside : 1 ≤ n → (t : Float) → is_time t ≡ true → le t (float_at words 0) ≡ false → le (float_at words (8 * (n - 1))) t ≡ false → counted (times_of (frames_of words)) t (n - 1) + 1 < n
  inside some t s a z =
      let ts = times_of (frames_of words) in
      let long : length ts ≡ 64 = length-map (frames_of words) (λ (k : Keyframe). k.time) ∙ frames-long words in
      let front : length (take (n - 1) ts) ≡ n - 1 = length-take-le (n - 1) ts (omega (arith, long)) in
      let few = count_most (λ (x : Float). le x t) (drop 1 (take (n - 1) ts)) in
      omega (arith, few, length-drop 1 (take (n - 1) ts), front, two (leb n 1) refl)
    where
      begun : le (float_at words 0) t ≡ true
      begun = is_true _ (lt-le (float_at words 0) t (lt_of_not_le t (float_at words 0) (time-number t s) (time-number (float_at words 0) (time-in 0 (omega arith))) a))

      two : (b : Bool) → leb n 1 ≡ b → 1 < n
      two false e = leb-false n 1 e
      two true e =
          let o : n - 1 ≡ 0 = omega (arith, leb-true n 1 e) in
          absurd (false≢true (sym (rw o at z) ∙ begun))

  -- the test of a frame against a time, on their patterns
  pub before-test : (i : ℕ) → i < n → word_at words (8 * i) < 0x1_0000_0000 → (t : Float) → T (fits binary32 t) → is_time t ≡ true → le (float_at words (8 * i)) t ≡ leb (word_at words (8 * i)) (bits_of t)
  before-test i h b t f s =
      let w : word_at words (8 * i) ≤ 0x4b80_0000 = low_word (word_at words (8 * i)) b (time-in i h) in
      let l = low_bits t f s in
      rw (float_back t f) at (at_most (word_at words (8 * i)) (bits_of t) (omega (arith, w)) (omega (arith, l)))
