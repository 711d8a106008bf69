-- "A tween that an accepted update hands back is itself within these limits, unless its loop_count has just passed 16,777,216". Assumes nothing.
use Rattle.std.specs.Prelude.{Result}
use Rattle.std.proofs.Common.{◌≡◌, Bool, true, false, ◌&&◌, T, refl, subst, lit≤}
use mathlib.Core.Path.{subst⁻¹}
use mathlib.Core.Bool.{false≢true}
use lib.Ieee.{Float, binary32, lt, le, is_nan}
use lib.Ieee.Fits.{and_i, and_l, and_r}
use Rattle.math.specs.Rounded.{zero_f, top_f, ◌⊕◌, ◌⊖◌, ◌⊗◌}
use Rattle.math.specs.Range.{is_finite, is_between, max_zero_of, AtMost}
use Rattle.math.proofs.Choice.{by-test}
use Rattle.math.proofs.Order.{le-numbers, lt-le, le-self, le-chain, le_of_not_lt, lt_of_not_le}
use Rattle.math.proofs.Upward.{Up, add-up, sub-up, mul-up, max-zero-up}
use Rattle.math.proofs.Sizes.{at-most-finite, at-most-number, at-most-more, up_to, add-at-most, sub-near}
use Rattle.math.proofs.Bounded.{zero-most, zero-within, top-is}
use Rattle.math.proofs.Wholes.{power-is}
use Rattle.math.proofs.Beneath.{at-most-le}
use Rattle.loop_mode.specs.declared.Loop.{Loop}
use Rattle.tween.specs.declared.record.Tween.{Tween}
use Rattle.tween.specs.declared.record.TweenState.{TweenState}
use Rattle.tween.specs.declared.record.TweenState.TheVariants.{Idle, Running, Paused, Completed}
use Rattle.tween.specs.declared.answers.Updated.{Updated}
use Rattle.folds.specs.declared.Folding.{Folding}
use Rattle.tween.specs.Parts.{put}
use Rattle.tween.specs.Limits.{top_wait, settings_within, idle_below, clock_within, within_of}
use Rattle.folds.specs.Folds.{fold_once, due, folds_of}
use Rattle.tween.specs.Update.{begin_at, at_once, after_folds, ran, advanced, waiting, lost_of, wait_of, run_of, by_state, update_of, updated}
use Rattle.tween.specs.Promises.{keeps_but_count, UpdateKeeps, UpdateWithin}
use Rattle.folds.proofs.Ways.{by-fold, is-due, not-due, folds-keep}
use Rattle.tween.proofs.Ways.{folded_from, by-advanced}
use Rattle.tween.proofs.Bounds.{top-wait-is, Limits, limits, settings-stay, between, clock, within, waited, elapsed}
use Rattle.refusal.specs.declared.rejected.Rejected.{Rejected}

-- folding: from 0 up, and at most the duration on completion
abbrev Good : Float → Folding → Type 0
Good d p = Up p.elapsed × (p.completed ≡ true → T (le p.elapsed d))

module _ (d : Float) (low : Up d) (most : AtMost 16777216 d) where
  finite : T (is_finite d)
  finite = at-most-finite 16777216 d most

  number : is_nan d ≡ false
  number = (le-numbers zero_f d low).1

  fold-good : (l : Loop) (p : Folding) → Good d p → due d p ≡ true → Good d (fold_once l d p)
  fold-good l p i g =
      by-fold (Good d) l d p (λ n r. (low, λ _. le-self d number))
      (λ n r. (sub-up binary32 p.elapsed d finite (subst⁻¹ T (is-due d p g).1 tt), λ h. absurd (false≢true h)))

  -- where no fold is due any more
  rests : (p : Folding) → Good d p → due d p ≡ false → T (is_between zero_f d p.elapsed)
  rests p i g = between zero_f d p.elapsed i.0 (go p.completed refl)
    where
      go : (c : Bool) → p.completed ≡ c → T (le p.elapsed d)
      go true h = i.1 h
      go false h = lt-le p.elapsed d (lt_of_not_le d p.elapsed number (le-numbers zero_f p.elapsed i.0).1 (not-due d p g h))

  all-good : (l : Loop) (p : Folding) → Good d p → Good d (folds_of 4096 (due d p) l d p)
  all-good l p i = folds-keep (Good d) l d (fold-good l) 4096 (due d p) p refl i

-- the update
abbrev Fine : Result Updated (Rejected Tween) → Type 0
Fine a = T (keeps_but_count a)

fine : (t : Tween) → T (settings_within t) → T (clock_within t) → T (settings_within t && clock_within t)
fine t s c = and_i (settings_within t) (clock_within t) s c

module _ (t : Tween) (i : Limits t) where
  ran-fine : (w : Float) (p : Folding) → T (is_between zero_f top_wait w) → T (is_between zero_f t.duration p.elapsed) → Fine (ran t w p)
  ran-fine w p h k =
      let u = put (after_folds w p) t in
      fine u (settings-stay (after_folds w p) t i.settings) (clock u k h (by-test (λ (s : TweenState). T (idle_below s w t.delay)) p.completed Completed Running (λ _. tt) (λ _. tt)))

  advanced-fine : (w e : Float) → T (is_between zero_f top_wait w) → Up e → Fine (advanced t w e)
  advanced-fine w e h k =
      let d = t.duration in
      let first : Good d (begin_at t e) = (k, λ c. absurd (false≢true c)) in
      by-advanced Fine t w e (λ _. ran-fine w (at_once t) h (between zero_f d zero_f zero-within.0 i.duration-up)) (λ _ _. tt)
      (λ g. ran-fine w (folded_from t e) h (rests d i.duration-up i.duration-most (folded_from t e) (all-good d i.duration-up i.duration-most t.looping (begin_at t e) first) g))

  -- y, times the scale, is added to elapsed
  sum-up : (y : Float) → T (is_finite y) → Up y → Up (t.elapsed ⊕ y ⊗ t.time_scale)
  sum-up y f h =
      let s = t.time_scale in
      add-up binary32 t.elapsed (y ⊗ s) i.elapsed-up (mul-up binary32 y s f (at-most-finite 1024 s i.scale-most) h i.scale-up)

  module _ (x : Float) (low : Up x) (high : T (le x top_f)) where
    step-most : AtMost 16777216 x
    step-most = up_to 16777216 x top_f top-is low high

    run-fine : Fine (run_of t x (t.elapsed ⊕ x ⊗ t.time_scale))
    unfolding run_of
    run-fine =
        let e = t.elapsed ⊕ x ⊗ t.time_scale in
        by-test Fine (lost_of Running t x e) _ _ (λ _. tt)
        (λ _. advanced-fine t.delay_elapsed e (waited t i) (sum-up x (at-most-finite 16777216 x step-most) low))

    -- two floats up to 2 ^ 24 come to 2 ^ 25 at most
    wait-fine : T (lt t.delay_elapsed t.delay) → Fine (wait_of t x (t.delay_elapsed ⊕ x))
    unfolding wait_of
    wait-fine l =
        let v = t.delay_elapsed in
        let d = t.delay in
        let w = v ⊕ x in
        let dm : AtMost 16777216 d = up_to 16777216 d top_f top-is i.delay-up i.delay-to in
        let vm : AtMost 16777216 v = up_to 16777216 v top_f top-is i.waited-up (le-chain v d top_f (lt-le v d l) i.delay-to) in
        let wm : AtMost 33554432 w = add-at-most binary32 33554432 (power-is binary32 25 (lit≤ tt)) 16777216 16777216 v x (lit≤ tt) vm step-most in
        let wu : Up w = add-up binary32 v x i.waited-up low in
        let wb : T (is_between zero_f top_wait w) = between zero_f top_wait w wu (at-most-le 33554432 w top_wait top-wait-is wm) in
        by-test Fine (lost_of Idle t x w) _ _ (λ _. tt)
        (λ _.
        by-test Fine (lt w d) _ _
        (λ g.
        let u = put (waiting t w) t in
        fine u (settings-stay (waiting t w) t i.settings) (clock u (elapsed t i) wb (subst⁻¹ T g tt)))
        (λ g.
        let r = w ⊖ d in
        let over : T (le d w) = le_of_not_lt w d (at-most-number 33554432 w wm) (at-most-number 16777216 d dm) g in
        let rm : AtMost 33554432 r = sub-near binary32 33554432 (power-is binary32 25 (lit≤ tt)) w d wu i.delay-up wm (at-most-more 16777216 33554432 d (lit≤ tt) dm) in
        advanced-fine w (t.elapsed ⊕ r ⊗ t.time_scale) wb (sum-up r (at-most-finite 33554432 r rm) (sub-up binary32 w d (at-most-finite 16777216 d dm) over))))

    as-it-is : Fine (updated t 0 true)
    as-it-is = fine t i.settings (clock t (elapsed t i) (waited t i) i.idle)

    by-state-fine : (s : TweenState) → T (idle_below s t.delay_elapsed t.delay) → Fine (by_state s t x)
    unfolding by_state
    by-state-fine Idle h = wait-fine h
    by-state-fine Running h = run-fine
    by-state-fine Paused h = as-it-is
    by-state-fine Completed h = as-it-is

-- a step that is not too long
zero-top : T (le zero_f top_f)
zero-top = at-most-le 16777216 zero_f top_f top-is (zero-most 16777216)

step-to : (x : Float) → lt top_f x ≡ false → T (le (max_zero_of x) top_f)
step-to x h =
    by-test (λ (z : Float). T (le z top_f)) (lt zero_f x) x zero_f
    (λ k. le_of_not_lt top_f x (le-numbers zero_f top_f zero-top).1 (le-numbers zero_f x (lt-le zero_f x (subst⁻¹ T k tt))).1 h)
    (λ _. zero-top)

pub update-keeps : UpdateKeeps
unfolding update_of
update-keeps t x =
    by-test Fine (within_of t) _ _
    (λ h.
    let i = limits t (subst⁻¹ T h tt) in
    by-test Fine (lt top_f x) _ _ (λ _. tt) (λ g. by-state-fine t i (max_zero_of x) (max-zero-up x) (step-to x g) t.state i.idle))
    (λ _. tt)

pub update-within : UpdateWithin
update-within t u x k r e h =
    let f : T (settings_within u && clock_within u) = subst Fine e (update-keeps t x) in
    within u (and_l (settings_within u) (clock_within u) f) (and_r (settings_within u) (clock_within u) f) h
