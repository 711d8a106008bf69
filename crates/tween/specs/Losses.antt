-- Document 01, "Step lost", and request 5: what holds of the steps that an update refuses with 6. Each sentence is a type; its proof has its name in small letters.
use Rattle.std.specs.Prelude.{◌≡◌, ℕ, ◌+◌, ◌*◌, ◌≤◌, Bool, false, not, ◌&&◌, T, ◌↔◌, Float}
use Rattle.std.specs.Float.Ieee.{lt, eq}
use Rattle.math.specs.Rounded.{zero_f, top_f, ◌⊕◌, ◌⊗◌}
use Rattle.math.specs.Range.{max_zero_of}
use Rattle.math.specs.Whole.{Is}
use Rattle.refusal.specs.declared.Refusal.TheVariants.{StepLost}
use Rattle.tween.specs.declared.record.Tween.{Tween}
use Rattle.tween.specs.declared.record.TweenState.{TweenState}
use Rattle.tween.specs.declared.record.TweenState.TheVariants.{Idle, Running, Paused, Completed}
use Rattle.tween.specs.Limits.{within_of}
use Rattle.tween.specs.Update.{lost_of, update_of}
use Rattle.refusal.specs.Refusing.{rejected}

-- the step x is lost, in the sum that it goes into: "the delay sum" while Idle, "the sum" while Running
abbrev pub loses_step : TweenState → Tween → Float → Bool
loses_step Idle t x = lost_of Idle t x (t.delay_elapsed ⊕ x)
loses_step Running t x = lost_of Running t x (t.elapsed ⊕ x ⊗ t.time_scale)
loses_step Paused t x = false
loses_step Completed t x = false

-- 6: "step lost", and "given exactly when": behind 4 and 5 an update gives it there, and there alone
abbrev pub UpdateSixExactly : Type 0
UpdateSixExactly =
    (t : Tween) (x : Float)
    → (update_of t x ≡ rejected t StepLost) ↔ T (within_of t && not (lt top_f x) && loses_step t.state t (max_zero_of x))

-- document 01's rule, which request 5 corrects: "step > 0 and either Idle with the delay sum equal to delay_elapsed, or Running with scale > 0, elapsed < duration and the sum equal to elapsed"
abbrev pub stands_still : TweenState → Tween → Float → Bool
stands_still Idle t x = lt zero_f x && eq (t.delay_elapsed ⊕ x) t.delay_elapsed
stands_still Running t x =
    lt zero_f x && lt zero_f t.time_scale && lt t.elapsed t.duration
    && eq (t.elapsed ⊕ x ⊗ t.time_scale) t.elapsed
stands_still Paused t x = false
stands_still Completed t x = false

-- "what was refused stays refused"
abbrev pub StillLost : Type 0
StillLost = (s : TweenState) (t : Tween) (x : Float) → T (stands_still s t x) → T (loses_step s t x)

-- the numbers of the sum that a step of n goes into are whole, and it is at most 16,777,216
abbrev pub SumsWhole : TweenState → Tween → ℕ → Type 0
SumsWhole Idle t n = (w : ℕ) × Is t.delay_elapsed w × (w + n ≤ 16777216)
SumsWhole Running t n = (e : ℕ) × (s : ℕ) × Is t.elapsed e × Is t.time_scale s × (e + n * s ≤ 16777216)
SumsWhole Paused t n = Unit {0}
SumsWhole Completed t n = Unit {0}

-- "Nothing on demand 3's tweens and steps changes": of such numbers no step is lost
abbrev pub WholeKept : Type 0
WholeKept = (s : TweenState) (t : Tween) (x : Float) (n : ℕ) → Is x n → SumsWhole s t n → loses_step s t x ≡ false
