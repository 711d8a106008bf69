-- The steps that an update refuses with 6: exactly those that are lost, those of before among them, and none of whole numbers. Assumes nothing.
use Rattle.std.specs.Prelude.{Result}
use Rattle.std.proofs.Common.{◌≡◌, ℕ, ◌+◌, ◌*◌, ◌≤◌, Bool, true, false, cond, not, ◌&&◌, T, refl, ap, ◌∙◌, ⊎_elim, eq-zero-or-pos, mul-pos, arith, Ok, Err}
use mathlib.Core.Path.{subst⁻¹}
use mathlib.Core.Bool.{and-false}
use lib.Ieee.{Float, binary32, lt}
use lib.Ieee.Bits.{is_true}
use Rattle.math.specs.Rounded.{zero_f, top_f, ◌⊕◌, ◌⊗◌}
use Rattle.math.specs.Range.{max_zero_of}
use Rattle.math.specs.Whole.{Is}
use Rattle.math.proofs.Choice.{by-test, and-weaker}
use Rattle.math.proofs.Wholes.{mul-exact}
use Rattle.math.proofs.Losses.{still-lost as sum-still, whole-kept as sum_kept, not-above, step_kept}
use Rattle.refusal.specs.declared.Refusal.TheVariants.{RecordBreaksLimit, StepTooLong, StepLost}
use Rattle.refusal.specs.Number.{number_of}
use Rattle.tween.specs.declared.record.Tween.{Tween}
use Rattle.tween.specs.declared.record.TweenState.{TweenState}
use Rattle.tween.specs.declared.record.TweenState.TheVariants.{Idle, Running, Paused, Completed}
use Rattle.tween.specs.declared.answers.Updated.{Updated}
use Rattle.tween.specs.Limits.{within_of}
use Rattle.tween.specs.Update.{advanced, wait_of, run_of, by_state, update_of}
use Rattle.tween.specs.Losses.{loses_step, UpdateSixExactly, StillLost, WholeKept}
use Rattle.tween.proofs.Ways.{by-advanced}
use Rattle.refusal.specs.declared.rejected.Rejected.{Rejected}
use Rattle.refusal.specs.Refusing.{rejected}

abbrev Six : Result Updated (Rejected Tween) → Type 0
Six (Ok o) = ⊥
Six (Err o) = number_of o.refusal ≡ 6

module _ (t : Tween) where
  no_six : (w e : Float) → Six (advanced t w e) → ⊥
  no_six w e = by-advanced (λ (a : Result Updated (Rejected Tween)). Six a → ⊥) t w e (λ _ h. h) (λ _ _ h. omega (arith, h)) (λ _ h. h)

  -- an update that is refused neither 4 nor 5
  six-lost : (x : Float) (s : TweenState) → Six (by_state s t x) → T (loses_step s t x)
  unfolding by_state wait_of run_of
  six-lost x Paused h = absurd h
  six-lost x Completed h = absurd h
  six-lost x Idle h =
      let lost = loses_step Idle t x in
      by-test (λ (a : Result Updated (Rejected Tween)). Six a → T lost) lost _ _ (λ l _. subst⁻¹ T l tt)
      (λ _. by-test (λ (a : Result Updated (Rejected Tween)). Six a → T lost) (lt (t.delay_elapsed ⊕ x) t.delay) _ _ (λ _ k. absurd k) (λ _ k. absurd (no_six _ _ k))) h
  six-lost x Running h =
      let lost = loses_step Running t x in
      by-test (λ (a : Result Updated (Rejected Tween)). Six a → T lost) lost _ _ (λ l _. subst⁻¹ T l tt) (λ _ k. absurd (no_six _ _ k)) h

  lost-six : (x : Float) (s : TweenState) → loses_step s t x ≡ true → by_state s t x ≡ rejected t StepLost
  unfolding by_state wait_of run_of
  lost-six x Paused h = absurd (subst⁻¹ T h tt)
  lost-six x Completed h = absurd (subst⁻¹ T h tt)
  lost-six x Idle h = rw h
  lost-six x Running h = rw h

  six-reaches : (x : Float) → Six (update_of t x) → T (within_of t && not (lt top_f x) && loses_step t.state t (max_zero_of x))
  unfolding update_of
  six-reaches x = go (within_of t) (lt top_f x)
    where
      go : (a b : Bool) → Six (cond a (cond b (rejected t StepTooLong) (by_state t.state t (max_zero_of x))) (rejected t RecordBreaksLimit)) → T (a && not b && loses_step t.state t (max_zero_of x))
      go true false h = six-lost (max_zero_of x) t.state h
      go true true h = absurd (omega (arith, h))
      go false b h = absurd (omega (arith, h))

  reaches-six : (x : Float) → T (within_of t && not (lt top_f x) && loses_step t.state t (max_zero_of x)) → update_of t x ≡ rejected t StepLost
  unfolding update_of
  reaches-six x = go (within_of t) (lt top_f x)
    where
      go : (a b : Bool) → T (a && not b && loses_step t.state t (max_zero_of x)) → cond a (cond b (rejected t StepTooLong) (by_state t.state t (max_zero_of x))) (rejected t RecordBreaksLimit) ≡ rejected t StepLost
      go true false h = lost-six (max_zero_of x) t.state (is_true (loses_step t.state t (max_zero_of x)) h)
      go true true h = absurd h
      go false b h = absurd h

pub update-six-exactly : UpdateSixExactly
update-six-exactly t x = (λ h. six-reaches t x (subst⁻¹ Six h refl), reaches-six t x)

pub still-lost : StillLost
still-lost Idle t x h = and-weaker (lt zero_f x) _ _ (sum-still t.delay_elapsed x (t.delay_elapsed ⊕ x)) h
still-lost Running t x h =
    and-weaker (lt zero_f x && lt zero_f t.time_scale && lt t.elapsed t.duration) _ _ (sum-still t.elapsed (x ⊗ t.time_scale) (t.elapsed ⊕ x ⊗ t.time_scale)) h
still-lost Paused t x h = h
still-lost Completed t x h = h

-- while Running a product that is 0 has a factor that is not above 0
run-kept : (t : Tween) (x : Float) (n e s : ℕ) → Is x n → Is t.elapsed e → Is t.time_scale s → e + n * s ≤ 16777216 → loses_step Running t x ≡ false
run-kept t x n e s X E S small = ⊎_elim none (λ p. ⊎_elim still (λ q. moves (mul-pos p q)) (eq-zero-or-pos s)) (eq-zero-or-pos n)
  where
    before : Bool
    before = lt zero_f x && lt zero_f t.time_scale && lt t.elapsed t.duration

    none : n ≡ 0 → loses_step Running t x ≡ false
    none z = rw (not-above x n X z) refl

    still : s ≡ 0 → loses_step Running t x ≡ false
    still z = rw (not-above t.time_scale s S z, and-false (lt zero_f x)) refl

    moves : 1 ≤ n * s → loses_step Running t x ≡ false
    moves l =
        let add : Is (x ⊗ t.time_scale) (n * s) = mul-exact binary32 x t.time_scale n s X S (omega (arith, small)) in
        ap (λ (b : Bool). before && b) (sum_kept t.elapsed (x ⊗ t.time_scale) e (n * s) E add l small) ∙ and-false before

pub whole-kept : WholeKept
whole-kept Idle t x n X (w, W, small) = step_kept t.delay_elapsed x w n W X small
whole-kept Running t x n X (e, s, E, S, small) = run-kept t x n e s X E S small
whole-kept Paused t x n X h = refl
whole-kept Completed t x n X h = refl
