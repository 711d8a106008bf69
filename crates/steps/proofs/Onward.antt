-- A run that had reached some step, and goes on from there. Assumes nothing.
use Prim.Native.Nat.{ℕ, ◌+◌, ◌<◌, ◌≤◌}
use mathlib.Core.Path.{◌≡◌, refl, ◌∙◌}
use mathlib.Core.Bool.{true, not}
use mathlib.Core.List.{List}
use native.Mathlib.Omega.{arith}
use lib.ListN.{length, get_or, set, length-set}
use lib.Ieee.{Float, nan}
use mir.Val.{bool_byte}
use Rattle.math.proofs.Tallies.{byte-below}
use Rattle.bezier.specs.declared.types.Found.{Found}
use Rattle.tween.specs.declared.record.Tween.{Tween}
use Rattle.tween.specs.Limits.{within_of}
use Rattle.steps.specs.Course.{step_of}
use Rattle.steps.specs.Inner.{Reached}
use Rattle.steps.proofs.Courses.{goes_on}
use Rattle.std.specs.Prelude.{Ok}

-- from step i₀ to step i
pub record Onward (steps values₀ : List Float) (folds₀ : List ℕ) (t₀ : Tween) (n₀ i₀ : ℕ) (values : List Float) (folds : List ℕ) (t : Tween) (n i : ℕ) : Type 0 where
  pub reaches : (vs : List Float) (fs : List ℕ) (s : Tween) → Reached steps vs fs s values₀ folds₀ t₀ n₀ i₀ → Reached steps vs fs s values folds t n i
  pub values-long : length values ≡ length values₀
  pub folds-long : length folds ≡ length folds₀
  pub within : within_of t ≡ true
  pub later : i₀ ≤ i
  pub few : i ≤ length steps
  pub few-unsettled : n < i + 1

module _ (steps values₀ : List Float) (folds₀ : List ℕ) (t₀ : Tween) (n₀ i₀ : ℕ) where
  pub starts : within_of t₀ ≡ true → i₀ ≤ length steps → n₀ ≤ i₀ → Onward steps values₀ folds₀ t₀ n₀ i₀ values₀ folds₀ t₀ n₀ i₀
  starts w h k = record { reaches = λ vs fs s r. r; values-long = refl; folds-long = refl; within = w; later = omega arith; few = h; few-unsettled = omega (arith, k) }

  module _ (room : length steps ≤ length values₀) (place : length steps ≤ length folds₀) (values : List Float) (folds : List ℕ) (t : Tween) (n i : ℕ) (o : Onward steps values₀ folds₀ t₀ n₀ i₀ values folds t n i) where
    pub one-more-step : (u : Tween) (f : Found) (k : ℕ) → i < length steps → step_of t (get_or steps i nan) ≡ Ok (record { tween = u; found = f; folds = k }) → within_of u ≡ true
        → Onward steps values₀ folds₀ t₀ n₀ i₀ (set values i f.value) (set folds i k) u (n + bool_byte (not f.settled)) (i + 1)
    one-more-step u f k h e w =
        record {
          reaches = λ vs fs s r.
              goes_on steps vs fs s (omega (arith, room, r.values-long)) (omega (arith, place, r.folds-long)) values folds t n i (o.reaches vs fs s r) u f k h e w;
          values-long = length-set values i f.value ∙ o.values-long;
          folds-long = length-set folds i k ∙ o.folds-long;
          within = w;
          later = omega (arith, o.later);
          few = omega (arith, h);
          few-unsettled = byte-below (not f.settled) n (i + 1) o.few-unsettled;
        }
