-- Document 01, "Records and their limits" and "Refusal numbers": what holds of every answer of a call. Each sentence is a type; its proof has its name in small letters.
use Rattle.std.specs.Prelude.{◌≡◌, ℕ, zero, suc, ◌≤◌, Bool, true, false, not, ◌&&◌, T, ◌↔◌, Float, Ok, Result, Err}
use Rattle.std.specs.Float.{binary32}
use Rattle.std.specs.Float.Ieee.{fits, lt, eq}
use Rattle.math.specs.Rounded.{zero_f, top_f, ◌⊕◌, ◌⊖◌, ◌⊗◌}
use Rattle.math.specs.Range.{max_zero_of, Within, AtMost}
use Rattle.refusal.specs.declared.Refusal.TheVariants.{TooManyFolds}
use Rattle.bezier.specs.declared.types.Found.{Found}
use Rattle.loop_mode.specs.declared.Loop.{Loop}
use Rattle.tween.specs.declared.record.Tween.{Tween}
use Rattle.tween.specs.declared.record.TweenState.{TweenState}
use Rattle.tween.specs.declared.record.TweenState.TheVariants.{Idle, Running, Paused, Completed}
use Rattle.tween.specs.declared.answers.Updated.{Updated}
use Rattle.folds.specs.declared.Folding.{Folding}
use Rattle.tween.specs.Parts.{with_ends, put, snapshot_in, moved}
use Rattle.tween.specs.Limits.{settings_within, clock_within, count_within, within_of}
use Rattle.folds.specs.Folds.{fold_once, due}
use Rattle.tween.specs.Calls.{progress_of, eased_progress_of, value_of, reset_of, seek_of, reverse_of, pause_of, resume_of}
use Rattle.tween.specs.Update.{begin_at, lost_of, update_of, updated}
use Rattle.refusal.specs.declared.rejected.Rejected.{Rejected}
use Rattle.refusal.specs.Refusing.{rejected}

-- an accepted call hands back a tween within its limits
abbrev pub keeps : Result Tween (Rejected Tween) → Bool
keeps (Ok u) = within_of u
keeps (Err o) = true

abbrev pub ResetKeeps : Type 0
ResetKeeps = (t : Tween) → T (keeps (reset_of t))

-- for a duration that is an f32: of other numbers a share may round up, as 1 times 16,777,215.5 to 16,777,216
abbrev pub SeekKeeps : Type 0
SeekKeeps = (t : Tween) (p : Float) → T (fits binary32 t.duration) → T (keeps (seek_of t p))

abbrev pub ReverseKeeps : Type 0
ReverseKeeps = (t : Tween) → T (keeps (reverse_of t))

abbrev pub PauseKeeps : Type 0
PauseKeeps = (t : Tween) → T (keeps (pause_of t))

abbrev pub ResumeKeeps : Type 0
ResumeKeeps = (t : Tween) → T (keeps (resume_of t))

-- "A tween that an accepted update hands back is itself within these limits, unless its loop_count has just passed 16,777,216"
abbrev pub UpdateWithin : Type 0
UpdateWithin = (t u : Tween) (x : Float) (k : ℕ) (r : Bool) → update_of t x ≡ updated u k r → T (count_within u) → T (within_of u)

-- every other limit holds in any case
abbrev pub keeps_but_count : Result Updated (Rejected Tween) → Bool
keeps_but_count (Ok o) = settings_within o.tween && clock_within o.tween
keeps_but_count (Err o) = true

abbrev pub UpdateKeeps : Type 0
UpdateKeeps = (t : Tween) (x : Float) → T (keeps_but_count (update_of t x))

-- "Each refusal hands back the record unchanged"
abbrev pub HandsBack : Tween → Result Tween (Rejected Tween) → Type 0
HandsBack t (Ok u) = Unit {0}
HandsBack t (Err o) = o.value ≡ t

abbrev pub ResetHandsBack : Type 0
ResetHandsBack = (t : Tween) → HandsBack t (reset_of t)

abbrev pub SeekHandsBack : Type 0
SeekHandsBack = (t : Tween) (p : Float) → HandsBack t (seek_of t p)

abbrev pub ReverseHandsBack : Type 0
ReverseHandsBack = (t : Tween) → HandsBack t (reverse_of t)

abbrev pub PauseHandsBack : Type 0
PauseHandsBack = (t : Tween) → HandsBack t (pause_of t)

abbrev pub ResumeHandsBack : Type 0
ResumeHandsBack = (t : Tween) → HandsBack t (resume_of t)

abbrev pub HandsBackUpdated : Tween → Result Updated (Rejected Tween) → Type 0
HandsBackUpdated t (Ok o) = Unit {0}
HandsBackUpdated t (Err o) = o.value ≡ t

abbrev pub UpdateHandsBack : Type 0
UpdateHandsBack = (t : Tween) (x : Float) → HandsBackUpdated t (update_of t x)

-- an accepted call touches nothing but what it is to change: given back, that gives back the tween. Reset and update: what moves
abbrev pub ResetTouches : Type 0
ResetTouches = (t u : Tween) → reset_of t ≡ Ok u → put (snapshot_in t) u ≡ t

abbrev pub UpdateTouches : Type 0
UpdateTouches = (t u : Tween) (x : Float) (k : ℕ) (r : Bool) → update_of t x ≡ updated u k r → put (snapshot_in t) u ≡ t

-- seek: elapsed and the state
abbrev pub SeekTouches : Type 0
SeekTouches = (t u : Tween) (p : Float) → seek_of t p ≡ Ok u → put (moved t.elapsed t.state u) u ≡ t

-- reverse: these and the ends
abbrev pub ReverseTouches : Type 0
ReverseTouches = (t u : Tween) → reverse_of t ≡ Ok u → with_ends u.end u.start (moved t.elapsed t.state u) u ≡ t

-- pause and resume: the state
abbrev pub PauseTouches : Type 0
PauseTouches = (t u : Tween) → pause_of t ≡ Ok u → put (moved u.elapsed t.state u) u ≡ t

abbrev pub ResumeTouches : Type 0
ResumeTouches = (t u : Tween) → resume_of t ≡ Ok u → put (moved u.elapsed t.state u) u ≡ t

-- a tween within its limits has a progress from 0 to 1, an eased progress and a value, both finite: "Easing inside a record must be supplied and within limits", so that it never refuses
abbrev pub ProgressAnswers : Type 0
ProgressAnswers = (t : Tween) → T (within_of t) → (p : Float) × (progress_of t ≡ Ok (record { 0 = p })) × Within p

abbrev pub EasedProgressAnswers : Type 0
EasedProgressAnswers = (t : Tween) → T (within_of t) → (f : Found) × (eased_progress_of t ≡ Ok f) × AtMost 134217728 f.value

-- at most 2 ^ 53 in size
abbrev pub ValueAnswers : Type 0
ValueAnswers = (t : Tween) → T (within_of t) → (f : Found) × (value_of t ≡ Ok f) × AtMost 9007199254740992 f.value

-- "how many folds it made": 4,096 at most
abbrev pub UpdateFolds : Type 0
UpdateFolds = (t u : Tween) (x : Float) (k : ℕ) (r : Bool) → update_of t x ≡ updated u k r → k ≤ 4096

abbrev pub is_completed : TweenState → Bool
is_completed Idle = false
is_completed Running = false
is_completed Paused = false
is_completed Completed = true

-- the source's answer: whether the tween goes on
abbrev pub UpdateRunning : Type 0
UpdateRunning = (t u : Tween) (x : Float) (k : ℕ) (r : Bool) → update_of t x ≡ updated u k r → r ≡ not (is_completed u.state)

-- what elapsed comes to by a step x, if the tween runs on: "Running adds step times scale"; while Idle, "the excess times scale is added to elapsed"
abbrev pub sum_by : Float → Tween → TweenState → Float
sum_by x t Idle = t.elapsed ⊕ (t.delay_elapsed ⊕ x ⊖ t.delay) ⊗ t.time_scale
sum_by x t Running = t.elapsed ⊕ x ⊗ t.time_scale
sum_by x t Paused = t.elapsed
sum_by x t Completed = t.elapsed

-- the tween runs on by a step x: it is not lost, and the delay is over
abbrev pub runs_on : Float → Tween → TweenState → Bool
runs_on x t Idle = let w = t.delay_elapsed ⊕ x in not (lost_of Idle t x w) && not (lt w t.delay)
runs_on x t Running = not (lost_of Running t x (t.elapsed ⊕ x ⊗ t.time_scale))
runs_on x t Paused = false
runs_on x t Completed = false

-- an update comes to fold: it is refused neither 4 nor 5 nor 6, the tween runs on, and the duration is not 0
abbrev pub comes_to_fold : Tween → Float → Bool
comes_to_fold t x = within_of t && not (lt top_f x) && runs_on (max_zero_of x) t t.state && not (eq t.duration zero_f)

-- n folds, due or not
unfoldable pub fold_times : ℕ → Loop → Float → Folding → Folding
fold_times zero l d p = p
fold_times (suc n) l d p = fold_times n l d (fold_once l d p)

-- 4,096 folds do not suffice: from an elapsed e, a fold is still due after each number of folds up to 4,096
abbrev pub TooFew : Tween → Float → Type 0
TooFew t e = (n : ℕ) → n ≤ 4096 → due t.duration (fold_times n t.looping t.duration (begin_at t e)) ≡ true

-- 7: "after 4,096 folds a tween's elapsed would still be at least its duration and the tween not completed", and "given exactly when": an update gives it there, and there alone
abbrev pub UpdateSevenExactly : Type 0
UpdateSevenExactly =
    (t : Tween) (x : Float)
    → (update_of t x ≡ rejected t TooManyFolds) ↔ (T (comes_to_fold t x) × TooFew t (sum_by (max_zero_of x) t t.state))
