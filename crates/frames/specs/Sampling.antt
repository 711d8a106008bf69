-- Document 01, "The track": the value of frames at a time in seconds, and by request 1 the search behind it.
use Rattle.std.specs.Prelude.{ℕ, suc, ◌-◌, Bool, not, cond, List, [], ◌∷◌, ◌++◌, map, eqb, length, drop, get_or, Float, Err, Ok, Result}
use Rattle.std.specs.Float.Ieee.{lt, le}
use Rattle.math.specs.Rounded.{◌⊖◌, ◌⊘◌, zero_f, epsilon_f}
use Rattle.math.specs.Range.{clamp01_of, max_zero_of}
use Rattle.math.specs.Blend.{blend_of}
use Rattle.bezier.specs.declared.types.Found.{Found}
use Rattle.bezier.specs.Bezier.{plain_of, with_value}
use Rattle.easing.specs.declared.kinds.Easing.{Easing}
use Rattle.easing.specs.Apply.{apply_of}
use Rattle.frames.specs.declared.frame.Keyframe.{Keyframe}
use Rattle.frames.specs.Limits.{no_frame}
use Rattle.refusal.specs.declared.Refusal.{Refusal}

abbrev pub first_of : List Keyframe → Keyframe
first_of l = get_or l 0 no_frame

abbrev pub last_of : List Keyframe → Keyframe
last_of l = get_or l (length l - 1) no_frame

-- the last time, and 0 where there is no frame, as in the source
unfoldable pub duration_of : List Keyframe → Float
duration_of l = cond (eqb (length l) 0) zero_f (last_of l).time

-- "cut at the last time"
abbrev pub cut_of : Float → Float → Float
cut_of x top = cond (lt x top) x top

-- "span at least 2^-23"
abbrev pub span_of : Float → Float
span_of d = cond (lt epsilon_f d) d epsilon_f

-- a refusal counts as 0, settled; no easing of a frame within limits refuses
abbrev pub found_in : Result Found Refusal → Found
found_in (Ok f) = f
found_in (Err r) = plain_of zero_f

abbrev pub eased_of : Easing → Float → Found
eased_of e p = found_in (apply_of e p)

-- "local progress (t - time_i) / span clamped, span at least 2^-23"
abbrev pub local_progress : Float → Float → Float → Float
local_progress from to t = clamp01_of ((t ⊖ from) ⊘ span_of (to ⊖ from))

-- ".. eased by frame i, blended". Request 1: "track sample and batch hand the "settled" mark on"
unfoldable pub between_of : Keyframe → Keyframe → Float → Found
between_of k l t =
    let f = eased_of k.easing (local_progress k.time l.time t) in
    with_value (blend_of k.value l.value f.value) f

-- how many frames from the front pass a test
unfoldable pub leading : (Keyframe → Bool) → List Keyframe → ℕ
leading q [] = 0
leading q (k ∷ ks) = cond (q k) (suc (leading q ks)) 0

-- how many frames from the front are at or before t
abbrev pub frames_up_to : Float → List Keyframe → ℕ
frames_up_to t l = leading (λ (k : Keyframe). le k.time t) l

-- a frame's own value. Request 1: "values found without easing count as settled with no evaluations"
abbrev pub own_of : Keyframe → Found
own_of k = plain_of k.value

-- "at or before the first time, the first value; at or after the last, the last; otherwise between", k and l
abbrev pub pick_of : Keyframe → Keyframe → Keyframe → Keyframe → Float → Found
pick_of first last k l t = cond (le t first.time) (own_of first) (cond (le last.time t) (own_of last) (between_of k l t))

-- "between the frames with time_i <= t < time_(i+1)": i is the last at or before t
abbrev pub at_of : List Keyframe → Float → Found
at_of l t = pick_of (first_of l) (last_of l) (get_or l (frames_up_to t l - 1) no_frame) (get_or l (frames_up_to t l) no_frame) t

-- "one frame gives its value; secs is max with 0, then cut at the last time"
unfoldable pub sample_of : List Keyframe → Float → Found
sample_of l secs = cond (eqb (length l) 1) (own_of (first_of l)) (at_of l (cut_of (max_zero_of secs) (last_of l).time))

-- "a lent list of times is sampled into a lent output": the sample at each time, and behind them what was there
unfoldable pub filled_of : List Keyframe → List Float → List Float → List Float
filled_of l times out = map (λ (secs : Float). (sample_of l secs).value) times ++ drop (length times) out

-- how many pass a test, wherever they stand
unfoldable pub count_of : (Float → Bool) → List Float → ℕ
count_of q [] = 0
count_of q (x ∷ xs) = cond (q x) (suc (count_of q xs)) (count_of q xs)

-- Request 1: "The batch writes how many of its samples weren't": those at these times that are not settled
unfoldable pub unsettled_of : List Keyframe → List Float → ℕ
unsettled_of l times = count_of (λ (secs : Float). not (sample_of l secs).settled) times
