-- Document 01, "The tween": `update`.
use Rattle.std.specs.Prelude.{Bool, true, false, cond, not, ◌&&◌, Float, Result, ℕ, Ok}
use Rattle.std.specs.Float.Ieee.{lt, eq}
use Rattle.math.specs.Rounded.{zero_f, top_f, ◌⊕◌, ◌⊖◌, ◌⊗◌}
use Rattle.math.specs.Range.{max_zero_of}
use Rattle.math.specs.Lost.{lost_by}
use Rattle.refusal.specs.declared.Refusal.TheVariants.{RecordBreaksLimit, StepTooLong, StepLost, TooManyFolds}
use Rattle.refusal.specs.Refusing.{unless, when}
use Rattle.tween.specs.declared.record.Tween.{Tween}
use Rattle.tween.specs.declared.record.TweenSnapshot.{TweenSnapshot}
use Rattle.tween.specs.declared.record.TweenState.{TweenState}
use Rattle.tween.specs.declared.record.TweenState.TheVariants.{Idle, Running, Paused, Completed}
use Rattle.tween.specs.declared.answers.Updated.{Updated}
use Rattle.folds.specs.declared.Folding.{Folding}
use Rattle.tween.specs.Parts.{put}
use Rattle.tween.specs.Limits.{within_of}
use Rattle.folds.specs.Folds.{due, folds_of}
use Rattle.refusal.specs.declared.rejected.Rejected.{Rejected}
use Rattle.refusal.specs.Refusing.{rejected}

-- "The update's answer also carries how many folds it made", and whether the tween goes on
abbrev pub updated : Tween → ℕ → Bool → Result Updated (Rejected Tween)
updated t folds running = Ok (record { tween = t; folds = folds; running = running })

-- the folding begins at an elapsed e
abbrev pub begin_at : Tween → Float → Folding
begin_at t e =
    record {
      elapsed = e;
      loop_count = t.loop_count;
      ping_pong_reverse = t.ping_pong_reverse;
      completed = false;
      folds = 0;
    }

-- "completes with 0 folds and elapsed 0"
abbrev pub at_once : Tween → Folding
at_once t =
    record {
      elapsed = zero_f;
      loop_count = t.loop_count;
      ping_pong_reverse = t.ping_pong_reverse;
      completed = true;
      folds = 0;
    }

-- what moves, after the folds, with delay_elapsed w
abbrev pub after_folds : Float → Folding → TweenSnapshot
after_folds w p =
    record {
      elapsed = p.elapsed;
      delay_elapsed = w;
      loop_count = p.loop_count;
      ping_pong_reverse = p.ping_pong_reverse;
      state = cond p.completed Completed Running;
    }

-- t after its folds
abbrev pub ran : Tween → Float → Folding → Result Updated (Rejected Tween)
ran t w p = updated (put (after_folds w p) t) p.folds (not p.completed)

-- 7: "after 4,096 folds a tween's elapsed would still be at least its duration and the tween not completed"
unfoldable pub folded : Tween → Float → Folding → Result Updated (Rejected Tween)
folded t w p =
    when (due t.duration p) (rejected t TooManyFolds)
    (ran t w p)

-- t runs on with delay_elapsed w and elapsed e: "Duration 0 then completes [..]. Otherwise, while elapsed is at least duration, one fold"
unfoldable pub advanced : Tween → Float → Float → Result Updated (Rejected Tween)
advanced t w e =
    cond (eq t.duration zero_f) (ran t w (at_once t))
    (let p = begin_at t e in folded t w (folds_of 4096 (due t.duration p) t.looping t.duration p))

-- what moves in an Idle tween whose delay is not over
abbrev pub waiting : Tween → Float → TweenSnapshot
waiting t w =
    record {
      elapsed = t.elapsed;
      delay_elapsed = w;
      loop_count = t.loop_count;
      ping_pong_reverse = t.ping_pong_reverse;
      state = Idle;
    }

-- "Step lost (added): step > 0 and either Idle [..], or Running with scale > 0, elapsed < duration [..]". Request 5: "Where the rule now asks that the sum equal the old number", what was to be added is lost there: while Idle the step, while Running the step times scale
abbrev pub lost_of : TweenState → Tween → Float → Float → Bool
lost_of Idle t x sum = lt zero_f x && lost_by t.delay_elapsed x sum
lost_of Running t x sum =
    lt zero_f x && lt zero_f t.time_scale && lt t.elapsed t.duration
    && lost_by t.elapsed (x ⊗ t.time_scale) sum
lost_of Paused t x sum = false
lost_of Completed t x sum = false

-- Idle, with a delay sum w: 6, or "once that is at least the delay, Running, and the excess times scale is added to elapsed"
unfoldable pub wait_of : Tween → Float → Float → Result Updated (Rejected Tween)
wait_of t x w =
    when (lost_of Idle t x w) (rejected t StepLost)
    (cond (lt w t.delay) (updated (put (waiting t w) t) 0 true)
    (advanced t w (t.elapsed ⊕ (w ⊖ t.delay) ⊗ t.time_scale)))

-- Running, with a sum e: 6, or t runs on
unfoldable pub run_of : Tween → Float → Float → Result Updated (Rejected Tween)
run_of t x e =
    when (lost_of Running t x e) (rejected t StepLost)
    (advanced t t.delay_elapsed e)

-- "Completed and Paused change nothing. Idle adds the step to delay_elapsed [..]. Running adds step times scale"
unfoldable pub by_state : TweenState → Tween → Float → Result Updated (Rejected Tween)
by_state Completed t x = updated t 0 false
by_state Paused t x = updated t 0 true
by_state Idle t x = wait_of t x (t.delay_elapsed ⊕ x)
by_state Running t x = run_of t x (t.elapsed ⊕ x ⊗ t.time_scale)

-- the refusals in their order, 4, 5, 6, 7; "NaN, negative and -0 steps count as +0"
unfoldable pub update_of : Tween → Float → Result Updated (Rejected Tween)
update_of t x =
    unless (within_of t) (rejected t RecordBreaksLimit)
    (when (lt top_f x) (rejected t StepTooLong)
    (by_state t.state t (max_zero_of x)))
