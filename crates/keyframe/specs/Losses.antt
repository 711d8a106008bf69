-- Document 01, "The track": "6 if step > 0 and the sum equals elapsed", and request 5: what holds of the steps that an update refuses with 6. Each sentence is a type; its proof has its name in small letters.
use Rattle.std.specs.Prelude.{◌≡◌, ℕ, ◌+◌, ◌≤◌, Bool, false, not, ◌&&◌, T, ◌↔◌, Float}
use Rattle.std.specs.Float.Ieee.{lt, eq}
use Rattle.math.specs.Rounded.{zero_f, top_f, ◌⊕◌}
use Rattle.math.specs.Range.{max_zero_of}
use Rattle.math.specs.Whole.{Is}
use Rattle.refusal.specs.declared.Refusal.TheVariants.{StepLost}
use Rattle.keyframe.specs.declared.types.Track.{Track}
use Rattle.keyframe.specs.Limits.{within_of}
use Rattle.keyframe.specs.Playback.{done_of}
use Rattle.keyframe.specs.Stepping.{lost_of, update_of}
use Rattle.refusal.specs.Refusing.{rejected}

-- 6: "step lost", and "given exactly when": behind 4 and 5, in a track that an update moves, it is given there, and there alone
abbrev pub UpdateSixExactly : Type 0
UpdateSixExactly =
    (t : Track) (dt : Float)
    → (update_of t dt ≡ rejected t StepLost) ↔ T (within_of t && not (lt top_f dt) && not (done_of t) && lost_of t.elapsed (max_zero_of dt))

-- document 01's rule, which request 5 corrects: "step > 0 and the sum equals elapsed"
abbrev pub stands_still : Float → Float → Bool
stands_still elapsed step = lt zero_f step && eq (elapsed ⊕ step) elapsed

-- "what was refused stays refused"
abbrev pub StillLost : Type 0
StillLost = (elapsed step : Float) → T (stands_still elapsed step) → T (lost_of elapsed step)

-- of whole numbers whose sum is at most 16,777,216 no step is lost
abbrev pub WholeKept : Type 0
WholeKept = (elapsed step : Float) (a b : ℕ) → Is elapsed a → Is step b → a + b ≤ 16777216 → lost_of elapsed step ≡ false
