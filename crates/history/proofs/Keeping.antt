-- What an update by a whole step does to where a tween stands. Assumes nothing.
use Rattle.std.specs.Prelude.{Result, Ok, Err}
use Prim.Native.Nat.{ℕ, ◌+◌, ◌-◌, ◌*◌, ◌≤◌, ◌<◌}
use native.Mathlib.Nat.{mul-le-mul_right}
use native.Mathlib.Omega.{arith}
use mathlib.Core.Path.{◌≡◌, refl, sym, ap, ◌∙◌, subst, subst₂, subst⁻¹}
use mathlib.Core.Bool.{Bool, true, false, cond, true≢false}
use borrow.Author.Tests.{ltb-true, ltb-false, leb-false, ne_eqb}
use lib.Ieee.{Float, binary32, lt, le, eq}
use Rattle.math.specs.Rounded.{◌⊕◌, ◌⊖◌, ◌⊗◌, whole_f, zero_f, top_f}
use Rattle.math.specs.Range.{max_zero_of}
use Rattle.math.specs.Whole.{Is}
use Rattle.math.proofs.Choice.{by-test}
use Rattle.math.proofs.Equals.{max-zero-is}
use Rattle.math.proofs.Wholes.{whole_is, zero_is, add-exact, sub-exact, mul-exact, lt-is, le_is, eq_is}
use Rattle.loop_mode.specs.declared.Loop.{Loop}
use Rattle.loop_mode.specs.Passes.{limit_of}
use Rattle.tween.specs.declared.record.Tween.{Tween}
use Rattle.tween.specs.declared.record.TweenState.{TweenState}
use Rattle.tween.specs.declared.record.TweenState.TheVariants.{Idle, Running, Paused, Completed}
use Rattle.folds.specs.declared.Folding.{Folding}
use Rattle.tween.specs.declared.answers.Updated.{Updated}
use Rattle.tween.specs.Parts.{put}
use Rattle.tween.specs.Limits.{within_of}
use Rattle.folds.specs.Folds.{due, folds_of}
use Rattle.tween.specs.Update.{begin_at, after_folds, advanced, waiting, lost_of, wait_of, run_of, by_state, update_of}
use Rattle.folds.proofs.Ways.{not-due}
use Rattle.tween.proofs.Ways.{folded_from, by-advanced}
use Rattle.history.specs.History.{counts}
use Rattle.history.proofs.Folding.{Below, Counted, FoldedTo, all_keep}
use Rattle.history.proofs.Standing.{Under, At, Standing, moves-to, duration-value, scale-value, delay-value, product_small}
use Rattle.refusal.specs.declared.rejected.Rejected.{Rejected}

-- an answer to an update by n: from H, A and F it came to K, B and F with the folds reported, or, refused, nowhere
abbrev pub Came : Loop → ℕ → ℕ → ℕ → ℕ → ℕ → ℕ → ℕ → ℕ → ℕ → Result Updated (Rejected Tween) → Type 0
Came l D W s n H A F K B (Ok o) = Standing l D W s K B (F + o.folds) o.tween × (o.folds * D ≤ n * s + D)
Came l D W s n H A F K B (Err o) = Standing l D W s H A F o.value

-- what the steps from H to K leave over after the delay, scaled
abbrev pub left_over : ℕ → ℕ → ℕ → ℕ → ℕ
left_over s W H K = s * (K - W - (H - W))

left_is : (s W H K r : ℕ) → K - W - (H - W) ≡ r → left_over s W H K ≡ r * s
left_is s W H K r h = omega (arith, ap (λ (x : ℕ). s * x) h)

module _ (l : Loop) (D W s H A F n : ℕ) (t : Tween) (small : n ≤ 524288) (i : Standing l D W s H A F t) where
  duration-is : Is t.duration D
  duration-is = duration-value t D W s i.settings

  scale-is : Is t.time_scale s
  scale-is = scale-value t D W s i.settings

  -- after the folds, none of which is due any more
  settled : (w : Float) (p : Folding) (K B G : ℕ) (c : Bool) → W ≤ K → (c ≡ false → le t.duration p.elapsed ≡ false)
      → FoldedTo l D B G c p → At (cond c Completed Running) l D W K B G (put (after_folds w p) t)
  settled w p K B G true k g (E, o, b) = (k, E, o, b)
  settled w p K B G false k g (e, E, a, b, o, c) = (k, (e, E, a, leb-false D e (sym (le_is t.duration p.elapsed D e duration-is E) ∙ g refl), o, c))

  few : (p : Folding) (B G : ℕ) (c : Bool) → FoldedTo l D B G c p → D * G ≤ B
  few p B G true (E, o, b) = b
  few p B G false (e, E, a, b, o, c) = omega arith

  some-duration : eq t.duration zero_f ≡ false
  some-duration = eq_is t.duration zero_f D 0 duration-is zero_is ∙ ne_eqb D 0 (λ (z : D ≡ 0). omega (arith, i.settings.duration-from))

  -- t runs on from an elapsed x that is e
  advanced-keeps : (w x : Float) (K B e : ℕ) → Is x e → W ≤ K → D * F + e ≡ B → e ≤ n * s + D → e ≤ 16777216
      → Below (limit_of l) F → Counted l F t.loop_count → Came l D W s n H A F K B (advanced t w x)
  advanced-keeps w x K B e E k a b c o q =
      let d = t.duration in
      let p = begin_at t x in
      let z : F ≡ F + 0 = omega arith in
      let first : FoldedTo l D B (F + 0) false p = (e, E, omega arith, c, subst (λ (G : ℕ). Below (limit_of l) G) z o, subst (λ (G : ℕ). Counted l G t.loop_count) z q) in
      let r = folded_from t x in
      let last : FoldedTo l D B (F + r.folds) r.completed r =
      subst⁻¹ (λ (m : Loop). let r = folds_of 4096 (due d p) m d p in FoldedTo l D B (F + r.folds) r.completed r) i.looping-is (all_keep d D B duration-is 4096 l F p first) in
      let m : D * (F + r.folds) ≤ B = few r B (F + r.folds) r.completed last in
      by-advanced (Came l D W s n H A F K B) t w x (λ g. absurd (true≢false (sym g ∙ some-duration))) (λ _ _. i)
      (λ g. (moves-to l D W s H A F K B (F + r.folds) t (after_folds w r) i (settled w r K B (F + r.folds) r.completed k (not-due d r g) last), omega arith))

  -- e and what y adds to it, scaled: y is r, at most n
  module _ (y : Float) (e r : ℕ) (E : Is t.elapsed e) (Y : Is y r) (under : e < D) (part : r ≤ n) where
    r_small : r ≤ 524288
    r_small = omega (arith, small)

    sum-small : e + r * s ≤ 16777216
    sum-small = omega (arith, i.settings.duration-to, product_small t D W s i.settings r r_small)

    sum_is : Is (t.elapsed ⊕ y ⊗ t.time_scale) (e + r * s)
    sum_is =
        let m : r * s ≤ 16777216 = omega (arith, sum-small) in
        add-exact binary32 t.elapsed (y ⊗ t.time_scale) e (r * s) E (mul-exact binary32 y t.time_scale r s Y scale-is m) sum-small

    sum-keeps : (w : Float) (K : ℕ) → W ≤ K → K - W - (H - W) ≡ r → D * F + e ≡ A → Below (limit_of l) F → Counted l F t.loop_count
        → Came l D W s n H A F K (A + left_over s W H K) (advanced t w (t.elapsed ⊕ y ⊗ t.time_scale))
    sum-keeps w K k z a o q =
        let b : r * s ≤ n * s = mul-le-mul_right s part in
        advanced-keeps w (t.elapsed ⊕ y ⊗ t.time_scale) K (A + left_over s W H K) (e + r * s) sum_is k (omega (arith, left_is s W H K r z)) (omega arith) sum-small o q

  -- by a step x that is n
  module _ (x : Float) (X : Is x n) where
    abbrev Next : Result Updated (Rejected Tween) → Type 0
    Next = Came l D W s n H A F (H + n) (A + left_over s W H (H + n))

    run-keeps : Under l D W H A F t → Next (run_of t x (t.elapsed ⊕ x ⊗ t.time_scale))
    unfolding run_of
    run-keeps (k, (e, E, a, d, o, q)) =
        by-test Next (lost_of Running t x (t.elapsed ⊕ x ⊗ t.time_scale)) _ _ (λ _. i)
        (λ _. sum-keeps x e n E X d (omega arith) t.delay_elapsed (H + n) (omega arith) (omega arith) a o q)

    wait-keeps : At Idle l D W H A F t → Next (wait_of t x (t.delay_elapsed ⊕ x))
    unfolding wait_of
    wait-keeps (w-is, k, E, a, f, o, q) =
        let w = t.delay_elapsed ⊕ x in
        let d = t.delay in
        let W-small : W ≤ 1048576 = i.settings.delay-to in
        let d-is : Is d W = delay-value t D W s i.settings (omega arith) in
        let sum_is : Is w (H + n) = add-exact binary32 t.delay_elapsed x H n w-is X (omega (arith, small)) in
        let none : D * F ≡ 0 = rw f (omega arith) in
        by-test Next (lost_of Idle t x w) _ _ (λ _. i)
        (λ _.
        by-test Next (lt w d) _ _
        (λ g.
        let m : H + n < W = ltb-true (H + n) W (sym (lt-is w d (H + n) W sum_is d-is) ∙ g) in
        let z : H + n - W - (H - W) ≡ 0 = omega arith in
        let G : F ≡ F + 0 = omega arith in
        let b : A + left_over s W H (H + n) ≡ 0 = omega (arith, left_is s W H (H + n) 0 z) in
        (moves-to l D W s H A F (H + n) (A + left_over s W H (H + n)) (F + 0) t (waiting t w) i (sum_is, m, E, b, omega arith, subst (λ (G : ℕ). Below (limit_of l) G) G o, subst (λ (G : ℕ). Counted l G t.loop_count) G q), omega arith))
        (λ g.
        let m : W ≤ H + n = ltb-false (H + n) W (sym (lt-is w d (H + n) W sum_is d-is) ∙ g) in
        let c : H + n - W ≤ 16777216 = omega (arith, small) in
        sum-keeps (w ⊖ d) 0 (H + n - W) E (sub-exact binary32 w d (H + n) W sum_is d-is m c) i.settings.duration-from (omega arith) w (H + n) m (omega arith) (omega arith) o q))

    still : Standing l D W s (H + 0) (A + left_over s W H (H + 0)) (F + 0) t × (0 * D ≤ n * s + D)
    still =
        let z : H + 0 - W - (H - W) ≡ 0 = omega arith in
        let a : A ≡ A + left_over s W H (H + 0) = omega (arith, left_is s W H (H + 0) 0 z) in
        let h : H ≡ H + 0 = omega arith in
        let f : F ≡ F + 0 = omega arith in
        (subst (λ (G : ℕ). Standing l D W s (H + 0) (A + left_over s W H (H + 0)) G t) f (subst₂ (λ (K B : ℕ). Standing l D W s K B F t) h a i), omega arith)

    by-state-keeps : (a : TweenState) → At a l D W H A F t → let K = H + cond (counts a) n 0 in Came l D W s n H A F K (A + left_over s W H K) (by_state a t x)
    unfolding by_state
    by-state-keeps Idle j = wait-keeps j
    by-state-keeps Running j = run-keeps j
    by-state-keeps Paused j = still
    by-state-keeps Completed j = still

  -- The general law, of which demand 3 is a case: an update by n at the scale s, whatever it answers, takes H to K, which is H + n or, while paused or completed, H, and A to A and what n left over after the delay, scaled; it reports at most n times s / D folds, plus 1. A is a running sum: the scale may be another at each update, and a reset may come anywhere.
  pub update-keeps : let K = H + cond (counts t.state) n 0 in Came l D W s n H A F K (A + left_over s W H K) (update_of t (whole_f n))
  unfolding update_of
  update-keeps =
      let K = H + cond (counts t.state) n 0 in
      let P : Result Updated (Rejected Tween) → Type 0 = Came l D W s n H A F K (A + left_over s W H K) in
      let step_is : Is (whole_f n) n = whole_is binary32 n (omega (arith, small)) in
      by-test P (within_of t) _ _
      (λ _. by-test P (lt top_f (whole_f n)) _ _ (λ _. i) (λ _. by-state-keeps (max_zero_of (whole_f n)) (max-zero-is (whole_f n) n step_is) t.state i.at)) (λ _. i)
