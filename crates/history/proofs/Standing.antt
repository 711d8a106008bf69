-- Where a tween stands whose settings and steps are whole numbers. A reset begins there; a pause and a resume change nothing. Assumes nothing.
use Rattle.std.specs.Prelude.{Ok, Result, Err}
use Prim.Native.Nat.{ℕ, ◌+◌, ◌*◌, ◌≤◌, ◌<◌}
use native.Mathlib.Nat.{eq-zero-or-pos, mul-le-mul}
use native.Mathlib.Omega.{arith}
use mathlib.Core.Logic.{⊎_elim}
use mathlib.Core.Path.{◌≡◌, refl, sym, subst}
use mathlib.Core.Bool.{Bool, true, false, cond}
use borrow.Author.Tests.{ltb-true, ltb-false, eqb-false}
use lib.Dec.{ltb, eqb}
use lib.Ieee.{binary32, lt}
use Rattle.math.specs.Rounded.{whole_f, zero_f}
use Rattle.math.specs.Whole.{Is}
use Rattle.math.proofs.Choice.{by-test}
use Rattle.math.proofs.Equals.{equal_is, equal-above}
use Rattle.math.proofs.Wholes.{whole_is, zero_is}
use Rattle.loop_mode.specs.declared.Loop.{Loop}
use Rattle.loop_mode.specs.declared.Loop.TheVariants.{Once, Times, Forever, PingPong, PingPongTimes}
use Rattle.loop_mode.specs.Passes.{passes_of, limit_of}
use Rattle.tween.specs.declared.record.Tween.{Tween}
use Rattle.tween.specs.declared.record.TweenSnapshot.{TweenSnapshot}
use Rattle.tween.specs.declared.record.TweenState.{TweenState}
use Rattle.tween.specs.declared.record.TweenState.TheVariants.{Idle, Running, Paused, Completed}
use Rattle.tween.specs.Parts.{put, moved}
use Rattle.tween.specs.Limits.{within_of}
use Rattle.tween.specs.Calls.{at_start, paused, resumed, reset_of, pause_of, resume_of}
use Rattle.history.specs.History.{Settings}
use Rattle.history.proofs.Folding.{Below, Reached, Counted}
use Rattle.refusal.specs.declared.rejected.Rejected.{Rejected}

-- H is the sum of the steps that counted, A the sum of what each left over after the delay, scaled, and F the sum of the folds. e of the pass under way has elapsed
abbrev pub Under : Loop → ℕ → ℕ → ℕ → ℕ → ℕ → Tween → Type 0
Under l D W H A F t = (W ≤ H) × ((e : ℕ) × Is t.elapsed e × (D * F + e ≡ A) × (e < D) × Below (limit_of l) F × Counted l F t.loop_count)

-- by state: while Idle the delay is not over
abbrev pub At : TweenState → Loop → ℕ → ℕ → ℕ → ℕ → ℕ → Tween → Type 0
At Idle l D W H A F t = Is t.delay_elapsed H × (H < W) × Is t.elapsed 0 × (A ≡ 0) × (F ≡ 0) × Below (limit_of l) F × Counted l F t.loop_count
At Running l D W H A F t = Under l D W H A F t
At Paused l D W H A F t = Under l D W H A F t
At Completed l D W H A F t = (W ≤ H) × Is t.elapsed D × Reached (limit_of l) F × (D * F ≤ A)

pub record Standing (l : Loop) (D W s H A F : ℕ) (t : Tween) : Type 0 where
  pub settings : Settings t D W s
  pub looping-is : t.looping ≡ l
  pub at : At t.state l D W H A F t

-- what moves in a tween is none of its settings
settings-stay : (now : TweenSnapshot) (t : Tween) (D W s : ℕ) → Settings t D W s → Settings (put now t) D W s
settings-stay now t D W s i =
    record {
      duration-is = i.duration-is;
      duration-from = i.duration-from;
      duration-to = i.duration-to;
      delay-is = i.delay-is;
      delay-to = i.delay-to;
      scale-is = i.scale-is;
      scale-from = i.scale-from;
      scale-to = i.scale-to;
    }

pub moves-to : (l : Loop) (D W s H A F K B G : ℕ) (t : Tween) (now : TweenSnapshot) → Standing l D W s H A F t → At now.state l D W K B G (put now t) → Standing l D W s K B G (put now t)
moves-to l D W s H A F K B G t now i j = record { settings = settings-stay now t D W s i.settings; looping-is = i.looping-is; at = j }

-- the settings as numbers; a delay of 0 may be -0
module _ (t : Tween) (D W s : ℕ) (i : Settings t D W s) where
  pub duration-value : Is t.duration D
  duration-value = equal_is t.duration (whole_f D) D (whole_is binary32 D (omega arith)) i.duration-from i.duration-is

  pub scale-value : Is t.time_scale s
  scale-value = equal_is t.time_scale (whole_f s) s (whole_is binary32 s (omega arith)) i.scale-from i.scale-is

  pub delay-value : 1 ≤ W → Is t.delay W
  delay-value h = equal_is t.delay (whole_f W) W (whole_is binary32 W (omega arith)) h i.delay-is

  pub product_small : (n : ℕ) → n ≤ 524288 → n * s ≤ 8388608
  product_small n h = mul-le-mul {n₁ = n} {m₁ = s} {n₂ = 524288} {m₂ = 16} h i.scale-to

-- a pause and a resume
abbrev pub Stays : Loop → ℕ → ℕ → ℕ → ℕ → ℕ → ℕ → Result Tween (Rejected Tween) → Type 0
Stays l D W s H A F (Ok u) = Standing l D W s H A F u
Stays l D W s H A F (Err o) = Standing l D W s H A F o.value

module _ (l : Loop) (D W s H A F : ℕ) (t : Tween) (i : Standing l D W s H A F t) where
  -- what holds of t in the state a holds of it in the state b
  abbrev Carried : TweenState → TweenState → Type 0
  Carried a b = At a l D W H A F t → At b l D W H A F (put (moved t.elapsed b t) t)

  either_way : (a : TweenState) → Carried a (paused a) × Carried a (resumed a)
  either_way Idle = (λ j. j, λ j. j)
  either_way Running = (λ j. j, λ j. j)
  either_way Paused = (λ j. j, λ j. j)
  either_way Completed = (λ j. j, λ j. j)

  carried : (b : TweenState) → Carried t.state b → Standing l D W s H A F (put (moved t.elapsed b t) t)
  carried b j = moves-to l D W s H A F H A F t (moved t.elapsed b t) i (j i.at)

  pub pause-keeps : Stays l D W s H A F (pause_of t)
  unfolding pause_of
  pause-keeps = by-test (Stays l D W s H A F) (within_of t) _ _ (λ _. carried (paused t.state) (either_way t.state).0) (λ _. i)

  pub resume-keeps : Stays l D W s H A F (resume_of t)
  unfolding resume_of
  resume-keeps = by-test (Stays l D W s H A F) (within_of t) _ _ (λ _. carried (resumed t.state) (either_way t.state).1) (λ _. i)

-- a reset
abbrev Begins : Loop → ℕ → ℕ → ℕ → Result Tween (Rejected Tween) → Type 0
Begins l D W s (Ok u) = Standing l D W s 0 0 0 u
Begins l D W s (Err o) = Unit {0}

some : (n : ℕ) → 0 < passes_of n
some n = by-test (λ (k : ℕ). 0 < k) (eqb n 0) 1 n (λ _. omega arith) (λ e. ⊎_elim (λ z. absurd (eqb-false n 0 e z)) (λ h. h) (eq-zero-or-pos n))

none_made : (l : Loop) → Below (limit_of l) 0 × Counted l 0 0
unfolding limit_of
none_made Once = (omega arith, tt)
none_made (Times n) = (some n, refl)
none_made (PingPongTimes n) = (some n, refl)
none_made Forever = (tt, tt)
none_made PingPong = (tt, tt)

module _ (t : Tween) (D W s : ℕ) (i : Settings t D W s) where
  started : (b : Bool) → ltb 0 W ≡ b → At (cond b Idle Running) t.looping D W 0 0 0 (put (at_start t) t)
  started true e = (zero_is, ltb-true 0 W e, zero_is, refl, refl, (none_made t.looping).0, (none_made t.looping).1)
  started false e = (ltb-false 0 W e, (0, zero_is, omega arith, i.duration-from, (none_made t.looping).0, (none_made t.looping).1))

  begins : Begins t.looping D W s (reset_of t)
  unfolding reset_of
  begins =
      let above = sym (equal-above t.delay (whole_f W) W (whole_is binary32 W (omega (arith, i.delay-to))) i.delay-is) in
      by-test (Begins t.looping D W s) (within_of t) _ _
      (λ _. record { settings = settings-stay (at_start t) t D W s i; looping-is = refl; at = started (lt zero_f t.delay) above }) (λ _. tt)

  pub reset-begins : (u : Tween) → reset_of t ≡ Ok u → Standing t.looping D W s 0 0 0 u
  reset-begins u e = subst (Begins t.looping D W s) e begins
