-- Document 01's samples without request 1's mark: the values alone.
use Rattle.std.specs.Prelude.{◌-◌, ◌≡◌, cond, List, ◌++◌, map, ◌⊎◌, eqb, length, drop, get_or, Float}
use Rattle.std.proofs.Common.{inl, inr}
use Rattle.std.specs.Float.Ieee.{le}
use Rattle.math.specs.Rounded.{zero_f}
use Rattle.math.specs.Range.{max_zero_of}
use Rattle.math.specs.Blend.{blend_of}
use Rattle.easing.specs.Values.{apply_alone}
use Rattle.frames.specs.declared.frame.Keyframe.{Keyframe}
use Rattle.frames.specs.Limits.{no_frame}
use Rattle.frames.specs.Sampling.{first_of, last_of, cut_of, local_progress, frames_up_to, sample_of}

-- a refusal counts as 0
abbrev pub value_in : {R : Type 0} → R ⊎ Float → Float
value_in (inl r) = zero_f
value_in (inr v) = v

unfoldable pub between_alone : Keyframe → Keyframe → Float → Float
between_alone k l t = blend_of k.value l.value (value_in (apply_alone k.easing (local_progress k.time l.time t)))

abbrev pub pick_alone : Keyframe → Keyframe → Keyframe → Keyframe → Float → Float
pick_alone first last k l t = cond (le t first.time) first.value (cond (le last.time t) last.value (between_alone k l t))

abbrev pub at_alone : List Keyframe → Float → Float
at_alone l t = pick_alone (first_of l) (last_of l) (get_or l (frames_up_to t l - 1) no_frame) (get_or l (frames_up_to t l) no_frame) t

unfoldable pub sample_alone : List Keyframe → Float → Float
sample_alone l secs = cond (eqb (length l) 1) (first_of l).value (at_alone l (cut_of (max_zero_of secs) (last_of l).time))

unfoldable pub filled_alone : List Keyframe → List Float → List Float → List Float
filled_alone l times out = map (λ (secs : Float). sample_alone l secs) times ++ drop (length times) out

-- Request 1: "Values don't change"
abbrev pub SampleUnchanged : Type 0
SampleUnchanged = (l : List Keyframe) (secs : Float) → (sample_of l secs).value ≡ sample_alone l secs
