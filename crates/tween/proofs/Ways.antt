-- The ways that an update can go: what holds of each way holds of it. Assumes nothing.
use Rattle.std.specs.Prelude.{Result}
use Rattle.std.proofs.Common.{◌≡◌, true, false, refl}
use lib.Ieee.{Float, lt, eq}
use Rattle.math.specs.Rounded.{zero_f, top_f, ◌⊕◌, ◌⊗◌}
use Rattle.math.specs.Range.{max_zero_of}
use Rattle.math.proofs.Choice.{by-test}
use Rattle.refusal.specs.declared.Refusal.TheVariants.{RecordBreaksLimit, StepTooLong, StepLost, TooManyFolds}
use Rattle.folds.specs.declared.Folding.{Folding}
use Rattle.folds.specs.Folds.{due, folds_of}
use Rattle.tween.specs.declared.record.Tween.{Tween}
use Rattle.tween.specs.declared.record.TweenState.{TweenState}
use Rattle.tween.specs.declared.record.TweenState.TheVariants.{Idle, Running, Paused, Completed}
use Rattle.tween.specs.declared.answers.Updated.{Updated}
use Rattle.tween.specs.Parts.{put}
use Rattle.tween.specs.Limits.{within_of}
use Rattle.tween.specs.Update.{begin_at, at_once, ran, folded, advanced, waiting, lost_of, wait_of, run_of, by_state, update_of, updated}
use Rattle.tween.specs.Promises.{sum_by}
use Rattle.refusal.specs.declared.rejected.Rejected.{Rejected}
use Rattle.refusal.specs.Refusing.{rejected}

-- t folded from an elapsed e
abbrev pub folded_from : Tween → Float → Folding
folded_from t e = folds_of 4096 (due t.duration (begin_at t e)) t.looping t.duration (begin_at t e)

-- t runs on: a duration of 0 completes at once; else it folds, and 7 where a fold is due still
pub by-advanced : (C : Result Updated (Rejected Tween) → Type 0) (t : Tween) (w e : Float) → (eq t.duration zero_f ≡ true → C (ran t w (at_once t)))
    → (eq t.duration zero_f ≡ false → due t.duration (folded_from t e) ≡ true → C (rejected t TooManyFolds))
    → (due t.duration (folded_from t e) ≡ false → C (ran t w (folded_from t e))) → C (advanced t w e)
unfolding advanced folded
by-advanced C t w e h k m = by-test C (eq t.duration zero_f) _ _ h (λ z. by-test C (due t.duration (folded_from t e)) _ _ (k z) m)

-- an update is refused, changes nothing, waits, or lets t run on
module _ (C : Result Updated (Rejected Tween) → Type 0) (t : Tween) (limit : C (rejected t RecordBreaksLimit)) (long : C (rejected t StepTooLong)) (lost : C (rejected t StepLost))
    (completed : t.state ≡ Completed → C (updated t 0 false)) (paused : t.state ≡ Paused → C (updated t 0 true)) (waits : (w : Float) → C (updated (put (waiting t w) t) 0 true)) where
  by_state_lem : (x : Float) (s : TweenState) → t.state ≡ s → ((w : Float) → C (advanced t w (sum_by x t s))) → C (by_state s t x)
  unfolding by_state wait_of run_of
  by_state_lem x Completed h runs = completed h
  by_state_lem x Paused h runs = paused h
  by_state_lem x Idle h runs =
      let w = t.delay_elapsed ⊕ x in
      by-test C (lost_of Idle t x w) _ _ (λ _. lost) (λ _. by-test C (lt w t.delay) _ _ (λ _. waits w) (λ _. runs w))
  by_state_lem x Running h runs =
      let e = t.elapsed ⊕ x ⊗ t.time_scale in
      by-test C (lost_of Running t x e) _ _ (λ _. lost) (λ _. runs t.delay_elapsed)

  pub by-update : (x : Float) → ((w : Float) → C (advanced t w (sum_by (max_zero_of x) t t.state))) → C (update_of t x)
  unfolding update_of
  by-update x runs = by-test C (within_of t) _ _ (λ _. by-test C (lt top_f x) _ _ (λ _. long) (λ _. by_state_lem (max_zero_of x) t.state refl runs)) (λ _. limit)
