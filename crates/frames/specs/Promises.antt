-- Document 01, "Records and their limits" and "The track": what holds of every push and of every sample. Each sentence is a type; its proof has its name in small letters.
use Rattle.std.specs.Prelude.{ℕ, ◌+◌, ◌<◌, ◌≤◌, ◌≡◌, true, false, List, T, length, get_or, Float, Ok}
use Rattle.std.specs.Float.Ieee.{lt, le}
use Rattle.math.specs.Rounded.{zero_f, top_f}
use Rattle.easing.specs.Apply.{apply_of}
use Rattle.frames.specs.declared.frame.Keyframe.{Keyframe}
use Rattle.frames.specs.Limits.{frame_within, frames_after, frames_within, no_frame}
use Rattle.frames.specs.Sampling.{eased_of, local_progress, frames_up_to, unsettled_of}
use Rattle.frames.specs.Pushing.{pushed_of}

-- "times strictly ascending", and each frame within its limits: a push keeps it, of frames behind a time p
abbrev pub PushedFine : Type 0
PushedFine =
    (k : Keyframe) → frame_within k ≡ true
    → (p : Float) (l : List Keyframe) → T (lt p k.time) → frames_after p l ≡ true → frames_after p (pushed_of k l) ≡ true

-- a frame that is pushed is there
abbrev pub PushedIn : Type 0
PushedIn = (k : Keyframe) (l : List Keyframe) → (p : ℕ) × ((p < length (pushed_of k l)) × (get_or (pushed_of k l) p no_frame ≡ k))

-- "the frames with time_i <= t < time_(i+1)": i is the last of those at or before t
abbrev pub PassedInterval : Type 0
PassedInterval =
    (l : List Keyframe) (t : Float) (i : ℕ) → frames_within l ≡ true → i + 1 < length l
    → le (get_or l i no_frame).time t ≡ true → le (get_or l (i + 1) no_frame).time t ≡ false → frames_up_to t l ≡ i + 1

-- between frames within their limits no easing refuses, at a time from 0 to 16,777,216: that a refusal counts as 0 never shows
abbrev pub BetweenAnswers : Type 0
BetweenAnswers =
    (k l : Keyframe) (t : Float) → frame_within k ≡ true → frame_within l ≡ true → T (le zero_f t) × T (le t top_f)
    → let p = local_progress k.time l.time t in
    apply_of k.easing p ≡ Ok (eased_of k.easing p)

-- Request 1: of the samples of a batch at most all are not settled
abbrev pub UnsettledMost : Type 0
UnsettledMost = (l : List Keyframe) (times : List Float) → unsettled_of l times ≤ length times
