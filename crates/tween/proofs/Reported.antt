-- What an update reports: at most 4,096 folds, 7 exactly where they are not enough, and `running` exactly where the tween is not completed. Assumes nothing.
use Rattle.std.specs.Prelude.{Result}
use Rattle.std.proofs.Common.{◌≡◌, ℕ, zero, suc, ◌+◌, ◌≤◌, Bool, true, false, cond, not, ◌&&◌, T, sym, refl, ap, ◌∙◌, subst, true≢false, le_refl, arith, Ok, Err}
use mathlib.Core.Path.{subst⁻¹}
use borrow.Author.Tests.{not-true}
use lib.Ieee.{Float, lt, eq}
use lib.Ieee.Bits.{is_true}
use lib.Ieee.Fits.{and_i, and_l, and_r}
use Rattle.math.proofs.Choice.{by-test}
use Rattle.math.specs.Rounded.{zero_f, top_f, ◌⊕◌, ◌⊗◌}
use Rattle.math.specs.Range.{max_zero_of}
use Rattle.refusal.specs.declared.Refusal.TheVariants.{TooManyFolds}
use Rattle.refusal.specs.Number.{number_of}
use Rattle.loop_mode.specs.declared.Loop.{Loop}
use Rattle.tween.specs.declared.record.Tween.{Tween}
use Rattle.tween.specs.declared.record.TweenState.{TweenState}
use Rattle.tween.specs.declared.record.TweenState.TheVariants.{Idle, Running, Paused, Completed}
use Rattle.tween.specs.declared.answers.Updated.{Updated}
use Rattle.folds.specs.declared.Folding.{Folding}
use Rattle.folds.specs.Folds.{fold_once, due, folds_of}
use Rattle.tween.specs.Update.{begin_at, advanced, lost_of, wait_of, run_of, by_state, update_of}
use Rattle.tween.specs.Limits.{within_of}
use Rattle.tween.specs.Promises.{is_completed, sum_by, runs_on, comes_to_fold, fold_times, TooFew, UpdateFolds, UpdateRunning, UpdateSevenExactly}
use Rattle.folds.proofs.Ways.{fold-counts}
use Rattle.tween.proofs.Ways.{folded_from, by-advanced, by-update}
use Rattle.refusal.specs.declared.rejected.Rejected.{Rejected}
use Rattle.refusal.specs.Refusing.{rejected}

-- n folds at most add n at most
folds-few : (n : ℕ) (b : Bool) (l : Loop) (d : Float) (p : Folding) → (folds_of n b l d p).folds ≤ p.folds + n
unfolding folds_of
folds-few zero b l d p = omega arith
folds-few (suc n) false l d p = omega arith
folds-few (suc n) true l d p =
    let q = fold_once l d p in
    omega (arith, fold-counts l d p, folds-few n (due d q) l d q)

abbrev Few : Result Updated (Rejected Tween) → Type 0
Few (Ok o) = o.folds ≤ 4096
Few (Err o) = Unit {0}

few : (t : Tween) (x : Float) → Few (update_of t x)
few t x =
    by-update Few t tt tt tt (λ _. omega arith) (λ _. omega arith) (λ w. omega arith) x
    (λ w.
    let p = begin_at t (sum_by (max_zero_of x) t t.state) in
    by-advanced Few t w (sum_by (max_zero_of x) t t.state) (λ _. omega arith) (λ _ _. tt) (λ _. folds-few 4096 (due t.duration p) t.looping t.duration p))

pub update-folds : UpdateFolds
update-folds t u x k r e = subst Few e (few t x)

-- running
abbrev Tells : Result Updated (Rejected Tween) → Type 0
Tells (Ok o) = o.running ≡ not (is_completed o.tween.state)
Tells (Err o) = Unit {0}

ran-tells : (c : Bool) → not c ≡ not (is_completed (cond c Completed Running))
ran-tells true = refl
ran-tells false = refl

tells : (t : Tween) (x : Float) → Tells (update_of t x)
tells t x =
    by-update Tells t tt tt tt (λ h. sym (ap (λ (s : TweenState). not (is_completed s)) h)) (λ h. sym (ap (λ (s : TweenState). not (is_completed s)) h)) (λ w. refl) x
    (λ w. by-advanced Tells t w (sum_by (max_zero_of x) t t.state) (λ _. refl) (λ _ _. tt) (λ _. ran-tells (folded_from t (sum_by (max_zero_of x) t t.state)).completed))

pub update-running : UpdateRunning
update-running t u x k r e = subst Tells e (tells t x)

-- 7. Where a fold is due after n folds at most, one was due after each number up to n
module _ (l : Loop) (d : Float) where
  due-before : (n : ℕ) (b : Bool) (p : Folding) → due d p ≡ b → due d (folds_of n b l d p) ≡ true → (m : ℕ) → m ≤ n → due d (fold_times m l d p) ≡ true
  unfolding folds_of fold_times
  due-before zero b p g h zero k = h
  due-before zero b p g h (suc m) k = absurd (omega arith)
  due-before (suc n) false p g h m k = absurd (true≢false (sym h ∙ g))
  due-before (suc n) true p g h zero k = g
  due-before (suc n) true p g h (suc m) k = due-before n (due d (fold_once l d p)) (fold_once l d p) refl h m (omega arith)

  -- and where one is, that many are made
  all_made : (n : ℕ) (b : Bool) (p : Folding) → due d p ≡ b → ((m : ℕ) → m ≤ n → due d (fold_times m l d p) ≡ true) → folds_of n b l d p ≡ fold_times n l d p
  unfolding folds_of fold_times
  all_made zero b p g h = refl
  all_made (suc n) false p g h = absurd (true≢false (sym (h 0 (omega arith)) ∙ g))
  all_made (suc n) true p g h = all_made n (due d (fold_once l d p)) (fold_once l d p) refl (λ m k. h (suc m) (omega arith))

failed : (b : Bool) → T (not b) → b ≡ false
failed b h = not-true b (is_true (not b) h)

abbrev Seven : Result Updated (Rejected Tween) → Type 0
Seven (Ok o) = ⊥
Seven (Err o) = number_of o.refusal ≡ 7

module _ (t : Tween) where
  seven-needs : (w e : Float) → Seven (advanced t w e) → (eq t.duration zero_f ≡ false) × TooFew t e
  seven-needs w e =
      let p = begin_at t e in
      by-advanced (λ (a : Result Updated (Rejected Tween)). Seven a → (eq t.duration zero_f ≡ false) × TooFew t e) t w e (λ _ h. absurd h)
      (λ z g _. (z, due-before t.looping t.duration 4096 (due t.duration p) p refl g)) (λ _ h. absurd h)

  seven-due : (w e : Float) → eq t.duration zero_f ≡ false → TooFew t e → advanced t w e ≡ rejected t TooManyFolds
  seven-due w e z few =
      let p = begin_at t e in
      by-advanced (λ (a : Result Updated (Rejected Tween)). a ≡ rejected t TooManyFolds) t w e (λ k. absurd (true≢false (sym k ∙ z))) (λ _ _. refl)
      (λ g. absurd (true≢false (sym (few 4096 (le_refl 4096)) ∙ ap (due t.duration) (sym (all_made t.looping t.duration 4096 (due t.duration p) p refl few)) ∙ g)))

  -- an update gives 7 there alone
  pub update-seven : (u : Tween) (x : Float) → update_of t x ≡ rejected u TooManyFolds → (eq t.duration zero_f ≡ false) × TooFew t (sum_by (max_zero_of x) t t.state)
  update-seven u x h =
      let e = sum_by (max_zero_of x) t t.state in
      by-update (λ (a : Result Updated (Rejected Tween)). Seven a → (eq t.duration zero_f ≡ false) × TooFew t e) t (λ k. absurd (omega arith)) (λ k. absurd (omega arith)) (λ k. absurd (omega arith))
      (λ _ k. absurd k) (λ _ k. absurd k) (λ _ k. absurd k) x (λ w. seven-needs w e) (subst⁻¹ Seven h refl)

  -- where the update comes to fold
  folds_by : (x : Float) (s : TweenState) → T (runs_on x t s) → (w : Float) × (by_state s t x ≡ advanced t w (sum_by x t s))
  unfolding by_state wait_of run_of
  folds_by x Paused h = absurd h
  folds_by x Completed h = absurd h
  folds_by x Idle h =
      let w = t.delay_elapsed ⊕ x in
      let lost = lost_of Idle t x w in
      (w, rw (failed lost (and_l (not lost) (not (lt w t.delay)) h), failed (lt w t.delay) (and_r (not lost) (not (lt w t.delay)) h)))
  folds_by x Running h =
      let lost = lost_of Running t x (t.elapsed ⊕ x ⊗ t.time_scale) in
      (t.delay_elapsed, rw (failed lost h))

  -- and where it does not, it gives no 7
  seven_runs : (x : Float) (s : TweenState) → Seven (by_state s t x) → T (runs_on x t s)
  unfolding by_state wait_of run_of
  seven_runs x Paused h = absurd h
  seven_runs x Completed h = absurd h
  seven_runs x Idle h =
      let w = t.delay_elapsed ⊕ x in
      let lost = lost_of Idle t x w in
      by-test (λ (a : Result Updated (Rejected Tween)). Seven a → T (not lost && not (lt w t.delay))) lost _ _ (λ _ k. absurd (omega arith))
      (λ l. by-test (λ (a : Result Updated (Rejected Tween)). Seven a → T (not lost && not (lt w t.delay))) (lt w t.delay) _ _ (λ _ k. absurd k) (λ d k. rw (l, d) tt)) h
  seven_runs x Running h =
      let lost = lost_of Running t x (t.elapsed ⊕ x ⊗ t.time_scale) in
      by-test (λ (a : Result Updated (Rejected Tween)). Seven a → T (not lost)) lost _ _ (λ _ k. absurd (omega arith)) (λ l k. rw l tt) h

  seven-reaches : (x : Float) → Seven (update_of t x) → T (within_of t && not (lt top_f x) && runs_on (max_zero_of x) t t.state)
  unfolding update_of
  seven-reaches x =
      let r = runs_on (max_zero_of x) t t.state in
      by-test (λ (a : Result Updated (Rejected Tween)). Seven a → T (within_of t && not (lt top_f x) && r)) (within_of t) _ _
      (λ w.
      by-test (λ (a : Result Updated (Rejected Tween)). Seven a → T (within_of t && not (lt top_f x) && r)) (lt top_f x) _ _ (λ _ k. absurd (omega arith))
      (λ l k. and_i (within_of t && not (lt top_f x)) r (rw (w, l) tt) (seven_runs (max_zero_of x) t.state k)))
      (λ _ k. absurd (omega arith))

pub update-seven-exactly : UpdateSevenExactly
unfolding update_of
update-seven-exactly t x = (λ h. (comes h, (update-seven t t x h).1), λ h. due-then h.0 h.1)
  where
    comes : update_of t x ≡ rejected t TooManyFolds → T (comes_to_fold t x)
    comes h =
        let r = runs_on (max_zero_of x) t t.state in
        let a = seven-reaches t x (subst⁻¹ Seven h refl) in
        let z = (update-seven t t x h).0 in
        and_i (within_of t && not (lt top_f x) && r) (not (eq t.duration zero_f)) a (rw z tt)

    due-then : T (comes_to_fold t x) → TooFew t (sum_by (max_zero_of x) t t.state) → update_of t x ≡ rejected t TooManyFolds
    due-then h few =
        let r = runs_on (max_zero_of x) t t.state in
        let e = within_of t && not (lt top_f x) in
        let d = not (eq t.duration zero_f) in
        let a : T (e && r) = and_l (e && r) d h in
        let b : T e = and_l e r a in
        let k = folds_by t (max_zero_of x) t.state (and_r e r a) in
        rw (is_true (within_of t) (and_l (within_of t) (not (lt top_f x)) b), failed (lt top_f x) (and_r (within_of t) (not (lt top_f x)) b))
        (k.1 ∙ seven-due t k.0 (sum_by (max_zero_of x) t t.state) (failed (eq t.duration zero_f) (and_r (e && r) d h)) few)
