-- Demand 3: "Take a tween, just reset, with whole numbers for duration D (1 to 1,048,576), delay W (0 to 1,048,576) and scale s (1 to 16), then any accepted updates by whole steps from 0 to 524,288, pauses and resumes. Let H be the sum of steps taken while neither paused nor completed, A = s times (H - W), or 0 if H < W. The folds reported add up to the whole part of A / D, or the mode's pass limit if less; elapsed is A less D times that, or D on completion; no update reports more than its step times s / D, plus 1."
use Rattle.std.specs.Prelude.{ℕ, ◌+◌, ◌-◌, ◌*◌, ◌/◌, ◌≤◌, min, ◌≡◌, Bool, true, false, cond, List, [], ◌∷◌, T, leb, Float, None, Ok, Option, Result, Some, Err}
use Rattle.std.specs.Float.Ieee.{eq}
use Rattle.math.specs.Rounded.{whole_f}
use Rattle.math.specs.Whole.{Is}
use Rattle.loop_mode.specs.declared.Loop.{Loop}
use Rattle.loop_mode.specs.Passes.{limit_of}
use Rattle.tween.specs.declared.record.Tween.{Tween}
use Rattle.tween.specs.declared.record.TweenState.{TweenState}
use Rattle.tween.specs.declared.record.TweenState.TheVariants.{Idle, Running, Paused, Completed}
use Rattle.tween.specs.declared.answers.Updated.{Updated}
use Rattle.tween.specs.Calls.{reset_of, pause_of, resume_of}
use Rattle.tween.specs.Update.{update_of}
use Rattle.tween.specs.Promises.{is_completed}
use Rattle.refusal.specs.declared.rejected.Rejected.{Rejected}

-- x is the number n; a zero of either sign is 0
abbrev pub equals : Float → ℕ → Bool
equals x n = eq x (whole_f n)

-- what is done to the tween: an update by a whole step, a pause, a resume
pub data Act : Type 0 where
  step : ℕ → Act
  pause : Act
  resume : Act

-- "whole steps from 0 to 524,288"
abbrev pub Small : Act → Type 0
Small (step n) = n ≤ 524288
Small pause = Unit {0}
Small resume = Unit {0}

abbrev pub AllSmall : List Act → Type 0
AllSmall [] = Unit {0}
AllSmall (a ∷ acts) = Small a × AllSmall acts

-- what was done so far has come to: the tween; H, the sum of the steps taken; the sum of the folds reported
pub record Past : Type 0 where
  pub tween : Tween
  pub taken : ℕ
  pub made : ℕ

-- "while neither paused nor completed"
abbrev pub counts : TweenState → Bool
counts Idle = true
counts Running = true
counts Paused = false
counts Completed = false

-- an update by n: one that is refused adds nothing
abbrev pub updated_by : Past → ℕ → Result Updated (Rejected Tween) → Past
updated_by h n (Ok o) = record { tween = o.tween; taken = h.taken + cond (counts h.tween.state) n 0; made = h.made + o.folds }
updated_by h n (Err o) = record { tween = o.value; taken = h.taken; made = h.made }

abbrev pub changed_to : Past → Result Tween (Rejected Tween) → Past
changed_to h (Ok u) = record { tween = u; taken = h.taken; made = h.made }
changed_to h (Err o) = record { tween = o.value; taken = h.taken; made = h.made }

abbrev pub after : Past → Act → Past
after h (step n) = updated_by h n (update_of h.tween (whole_f n))
after h pause = changed_to h (pause_of h.tween)
after h resume = changed_to h (resume_of h.tween)

unfoldable pub after_all : Past → List Act → Past
after_all h [] = h
after_all h (a ∷ acts) = after_all (after h a) acts

-- nothing done yet
abbrev pub fresh : Tween → Past
fresh t = record { tween = t; taken = 0; made = 0 }

-- "A = s times (H - W), or 0 if H < W": a difference of whole numbers stays at 0 where it would be below
abbrev pub scaled : ℕ → ℕ → ℕ → ℕ
scaled s W H = s * (H - W)

-- "or the mode's pass limit if less"
abbrev pub cut_at : Option ℕ → ℕ → ℕ
cut_at (Some n) q = min q n
cut_at None q = q

-- q passes come to the pass limit
abbrev pub reaches : Option ℕ → ℕ → Bool
reaches (Some n) q = leb n q
reaches None q = false

abbrev pub folds_in : Result Updated (Rejected Tween) → ℕ
folds_in (Ok o) = o.folds
folds_in (Err o) = 0

-- "whole numbers for duration D (1 to 1,048,576), delay W (0 to 1,048,576) and scale s (1 to 16)"
pub record Settings (t : Tween) (D W s : ℕ) : Type 0 where
  pub duration-is : T (equals t.duration D)
  pub duration-from : 1 ≤ D
  pub duration-to : D ≤ 1048576
  pub delay-is : T (equals t.delay W)
  pub delay-to : W ≤ 1048576
  pub scale-is : T (equals t.time_scale s)
  pub scale-from : 1 ≤ s
  pub scale-to : s ≤ 16

-- what holds of a history that has come to h, with the A of its H
pub record Holds (l : Loop) (D s A : ℕ) (h : Past) : Type 0 where
  -- "The folds reported add up to the whole part of A / D, or the mode's pass limit if less"
  pub folds-are : h.made ≡ cut_at (limit_of l) (A / D)
  -- "elapsed is A less D times that, or D on completion"
  pub elapsed-is : Is h.tween.elapsed (cond (is_completed h.tween.state) D (A - D * h.made))
  -- it is Completed exactly when A / D comes to the pass limit
  pub completed-is : is_completed h.tween.state ≡ reaches (limit_of l) (A / D)
  -- "no update reports more than its step times s / D, plus 1": the next one; each update is the next one of the history before it
  pub next-few : (n : ℕ) → n ≤ 524288 → folds_in (update_of h.tween (whole_f n)) * D ≤ n * s + D

-- the demand: t is the tween that was reset, and u the tween as the reset left it
abbrev pub Demand3 : Type 0
Demand3 =
    (t u : Tween) (D W s : ℕ) → Settings t D W s → reset_of t ≡ Ok u
    → (acts : List Act) → AllSmall acts
    → let h = after_all (fresh u) acts in Holds t.looping D s (scaled s W h.taken) h
