-- Demand 3: what a history of updates, pauses and resumes comes to, with A = s times (H - W). Assumes nothing.
use Rattle.std.specs.Prelude.{None, Ok, Option, Result, Some, Err}
use Prim.Native.Nat.{ℕ, ◌+◌, ◌-◌, ◌*◌, ◌/◌, ◌≤◌, ◌<◌}
use native.Mathlib.Nat.{le-div_iff_mul-le, div-eq_of_lt-le}
use native.Mathlib.Omega.{arith}
use mathlib.Core.Path.{◌≡◌, refl, sym, ap, ◌∙◌, subst}
use mathlib.Core.Bool.{true, false, cond}
use mathlib.Core.List.{List, [], ◌∷◌}
use borrow.Author.Tests.{le-leb, lt-leb}
use Rattle.math.specs.Rounded.{whole_f}
use Rattle.math.specs.Whole.{Is}
use Rattle.loop_mode.specs.declared.Loop.{Loop}
use Rattle.loop_mode.specs.Passes.{limit_of}
use Rattle.tween.specs.declared.record.Tween.{Tween}
use Rattle.tween.specs.declared.record.TweenState.{TweenState}
use Rattle.tween.specs.declared.record.TweenState.TheVariants.{Idle, Running, Paused, Completed}
use Rattle.tween.specs.declared.answers.Updated.{Updated}
use Rattle.tween.specs.Calls.{pause_of, resume_of}
use Rattle.tween.specs.Update.{update_of}
use Rattle.tween.specs.Promises.{is_completed}
use Rattle.history.specs.History.{Act, step, pause, resume, Small, AllSmall, Past, counts, updated_by, changed_to, after, after_all, fresh, scaled, cut_at, reaches, folds_in, Holds, Demand3}
use Rattle.history.proofs.Folding.{Below, Reached}
use Rattle.history.proofs.Standing.{At, Standing, Stays, pause-keeps, resume-keeps, reset-begins}
use Rattle.history.proofs.Keeping.{Came, left_over, update-keeps}
use Rattle.refusal.specs.declared.rejected.Rejected.{Rejected}

-- F folds against the limit, where A / D is q
below-cut : (m : Option ℕ) (F : ℕ) → Below m F → (F ≡ cut_at m F) × (false ≡ reaches m F)
below-cut (Some n) F o = (omega arith, sym (lt-leb n F o))
below-cut None F o = (refl, refl)

reached-cut : (m : Option ℕ) (F q : ℕ) → Reached m F → F ≤ q → (F ≡ cut_at m q) × (true ≡ reaches m q)
reached-cut (Some n) F q o k = (omega arith, sym (le-leb n q (omega arith)))
reached-cut None F q o k = absurd o

-- what is kept says what the demand asks, for any A
module _ (l : Loop) (D A F : ℕ) (some : 1 ≤ D) where
  abbrev Adds : TweenState → Tween → Type 0
  Adds st t = (F ≡ cut_at (limit_of l) (A / D)) × Is t.elapsed (cond (is_completed st) D (A - D * F)) × (is_completed st ≡ reaches (limit_of l) (A / D))

  under-adds : (t : Tween) (e : ℕ) → Is t.elapsed e → D * F + e ≡ A → e < D → Below (limit_of l) F → Adds Running t
  under-adds t e E a d o =
      let q : F ≡ A / D = sym (div-eq_of_lt-le {k = F} D {m = A} (omega arith) (omega arith)) in
      let r : e ≡ A - D * F = omega arith in
      let h = below-cut (limit_of l) F o in
      (h.0 ∙ ap (cut_at (limit_of l)) q, subst (λ (x : ℕ). Is t.elapsed x) r E, h.1 ∙ ap (reaches (limit_of l)) q)

  adds : (W H : ℕ) (st : TweenState) (t : Tween) → At st l D W H A F t → Adds st t
  adds W H Idle t (w, k, E, a, f, o, c) = let z : D * F ≡ 0 = rw f (omega arith) in under-adds t 0 E (omega arith) (omega arith) o
  adds W H Running t (k, (e, E, a, d, o, c)) = under-adds t e E a d o
  adds W H Paused t (k, (e, E, a, d, o, c)) = under-adds t e E a d o
  adds W H Completed t (k, E, o, b) =
      let h = reached-cut (limit_of l) F (A / D) o ((le-div_iff_mul-le some).1 (omega arith)) in
      (h.0, E, h.1)

-- A grows by what is left over
grown : (s W H c : ℕ) → scaled s W H + left_over s W H (H + c) ≡ scaled s W (H + c)
grown s W H c = let y : H - W + (H + c - W - (H - W)) ≡ H + c - W = omega arith in omega (arith, ap (λ (x : ℕ). s * x) y)

module _ (l : Loop) (D W s : ℕ) where
  -- a history that has come to h
  abbrev Stands : Past → Type 0
  Stands h = Standing l D W s h.taken (scaled s W h.taken) h.made h.tween

  -- an answer to an update of it by n
  abbrev Answers : Past → ℕ → Result Updated (Rejected Tween) → Type 0
  Answers h n = let K = h.taken + cond (counts h.tween.state) n 0 in Came l D W s n h.taken (scaled s W h.taken) h.made K (scaled s W h.taken + left_over s W h.taken K)

  updated-stands : (h : Past) (n : ℕ) (a : Result Updated (Rejected Tween)) → Answers h n a → Stands (updated_by h n a)
  updated-stands h n (Ok o) j =
      let c = cond (counts h.tween.state) n 0 in
      subst (λ (B : ℕ). Standing l D W s (h.taken + c) B (h.made + o.folds) o.tween) (grown s W h.taken c) j.0
  updated-stands h n (Err o) j = j

  few-more : (h : Past) (n : ℕ) (a : Result Updated (Rejected Tween)) → Answers h n a → folds_in a * D ≤ n * s + D
  few-more h n (Ok o) j = j.1
  few-more h n (Err o) j = omega arith

  changed-stands : (h : Past) (a : Result Tween (Rejected Tween)) → Stays l D W s h.taken (scaled s W h.taken) h.made a → Stands (changed_to h a)
  changed-stands h (Ok u) j = j
  changed-stands h (Err o) j = j

  answers : (h : Past) → Stands h → (n : ℕ) → n ≤ 524288 → Answers h n (update_of h.tween (whole_f n))
  answers h i n m = update-keeps l D W s h.taken (scaled s W h.taken) h.made n h.tween m i

  after-stands : (h : Past) (a : Act) → Small a → Stands h → Stands (after h a)
  after-stands h (step n) m i = updated-stands h n (update_of h.tween (whole_f n)) (answers h i n m)
  after-stands h pause m i = changed-stands h (pause_of h.tween) (pause-keeps l D W s h.taken (scaled s W h.taken) h.made h.tween i)
  after-stands h resume m i = changed-stands h (resume_of h.tween) (resume-keeps l D W s h.taken (scaled s W h.taken) h.made h.tween i)

  all-stand : (acts : List Act) (h : Past) → AllSmall acts → Stands h → Stands (after_all h acts)
  unfolding after_all
  all-stand [] h m i = i
  all-stand (a ∷ acts) h m i = all-stand acts (after h a) m.1 (after-stands h a m.0 i)

  holds : (h : Past) → Stands h → Holds l D s (scaled s W h.taken) h
  holds h i =
      let k = adds l D (scaled s W h.taken) h.made i.settings.duration-from W h.taken h.tween.state h.tween i.at in
      record { folds-are = k.0; elapsed-is = k.1; completed-is = k.2; next-few = λ n m. few-more h n (update_of h.tween (whole_f n)) (answers h i n m) }

-- at the start A is 0
none_yet : (s W : ℕ) → 0 ≡ scaled s W 0
none_yet s W = let z : 0 - W ≡ 0 = omega arith in omega (arith, ap (λ (x : ℕ). s * x) z)

pub demand-3 : Demand3
demand-3 t u D W s i e acts m =
    let l = t.looping in
    let first : Standing l D W s 0 (scaled s W 0) 0 u = subst (λ (A : ℕ). Standing l D W s 0 A 0 u) (none_yet s W) (reset-begins t D W s i u e) in
    holds l D W s (after_all (fresh u) acts) (all-stand l D W s acts (fresh u) m first)
