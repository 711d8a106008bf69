-- How a run stands after its first i steps, and how it goes on and ends from there. Assumes nothing.
use Rattle.std.specs.Prelude.{Err, Ok, Result, ⊤}
use Prim.Native.Nat.{ℕ, suc, ◌+◌, ◌<◌, ◌≤◌}
use mathlib.Core.Path.{◌≡◌, refl, ap, ◌∙◌}
use mathlib.Core.Bool.{Bool, true, false, not, cond}
use mathlib.Core.List.{List, [], ◌∷◌, ◌++◌, append_assoc, append-nil}
use native.Mathlib.Nat.{add-zero, zero-add}
use native.Mathlib.Numerals.{add-one}
use native.Mathlib.Omega.{arith}
use borrow.Author.Tests.{le-leb, lt-leb}
use lib.ListN.{length, drop, get_or, set, length-set}
use lib.Seq.{drop-cons, drop-length}
use lib.Ieee.{Float, nan}
use mir.Val.{bool_byte}
use Rattle.math.proofs.Tallies.{byte-below, byte_more}
use Rattle.bezier.specs.declared.types.Found.{Found}
use Rattle.refusal.specs.declared.Refusal.{Refusal}
use Rattle.refusal.specs.declared.Refusal.TheVariants.{RecordBreaksLimit, OutputTooShort}
use Rattle.tween.specs.declared.record.Tween.{Tween}
use Rattle.tween.specs.Limits.{within_of}
use Rattle.steps.specs.Inner.{Reached}
use Rattle.steps.proofs.Fronts.{more}
use Rattle.steps.specs.Course.{step_of, ended, stopped, course_of, run_of, answer_of, over}
use Rattle.refusal.specs.Refusing.{done}

-- one value counted on the way, or with those behind it
one_more : (b : Bool) (n m : ℕ) → n + cond b (suc m) m ≡ n + bool_byte b + m
one_more b n m = omega (arith, byte_more b m)

module _ (steps values₀ : List Float) (folds₀ : List ℕ) (t₀ : Tween) where
  pub begins : within_of t₀ ≡ true → Reached steps values₀ folds₀ t₀ values₀ folds₀ t₀ 0 0
  begins h =
      record {
        front = [];
        counts = [];
        values-are = (refl, refl);
        folds-are = (refl, refl);
        course-is = rw (zero-add (course_of steps t₀).unsettled) refl;
        values-long = refl;
        folds-long = refl;
        within = h;
        few = omega arith;
        few-unsettled = omega arith;
      }

  module _ (room : length steps ≤ length values₀) (place : length steps ≤ length folds₀) (values : List Float) (folds : List ℕ) (t : Tween) (n i : ℕ) (s : Reached steps values₀ folds₀ t₀ values folds t n i) where
    pub goes_on : (u : Tween) (f : Found) (k : ℕ) → i < length steps → step_of t (get_or steps i nan) ≡ Ok (record { tween = u; found = f; folds = k }) → within_of u ≡ true
        → Reached steps values₀ folds₀ t₀ (set values i f.value) (set folds i k) u (n + bool_byte (not f.settled)) (i + 1)
    unfolding course_of
    goes_on u f k h e w =
        record {
          front = s.front ++ (f.value ∷ []);
          counts = s.counts ++ (k ∷ []);
          values-are = more nan s.front i values values₀ f.value (omega arith) s.values-are;
          folds-are = more 0 s.counts i folds folds₀ k (omega arith) s.folds-are;
          course-is = s.course-is ∙ (rw (drop-cons steps i nan h, e, add-one, append_assoc, append_assoc, one_more (not f.settled)));
          values-long = length-set values i f.value ∙ s.values-long;
          folds-long = length-set folds i k ∙ s.folds-long;
          within = w;
          few = omega arith;
          few-unsettled = byte-below (not f.settled) n (i + 1) s.few-unsettled;
        }

    -- the run ends here
    ends : (o : Result ⊤ Refusal) → course_of (drop i steps) t ≡ ended t o
        → (record { tween = t; done = i; unsettled = n; outcome = o } ≡ answer_of (course_of steps t₀)) × (values ≡ over (course_of steps t₀).values values₀) × (folds ≡ over (course_of steps t₀).folds folds₀)
    ends o e = rw (s.course-is, e, append-nil s.front, append-nil s.counts, add-zero n, s.values-are.0, s.folds-are.0) (refl, s.values-are.1, s.folds-are.1)

    pub stops : (r : Refusal) → i < length steps → step_of t (get_or steps i nan) ≡ Err r
        → (record { tween = t; done = i; unsettled = n; outcome = Err r } ≡ answer_of (course_of steps t₀)) × (values ≡ over (course_of steps t₀).values values₀) × (folds ≡ over (course_of steps t₀).folds folds₀)
    unfolding course_of
    stops r h e = ends (Err r) (rw (drop-cons steps i nan h, e))

    pub finishes : i ≡ length steps
        → (record { tween = t; done = i; unsettled = n; outcome = done } ≡ answer_of (course_of steps t₀)) × (values ≡ over (course_of steps t₀).values values₀) × (folds ≡ over (course_of steps t₀).folds folds₀)
    unfolding course_of
    finishes e = ends done (ap (λ (n : ℕ). course_of (drop n steps) t) e ∙ (rw (drop-length steps)))

-- what `run_steps` answers, by its tests
module _ (t : Tween) (steps values : List Float) (folds : List ℕ) where
  pub broken : within_of t ≡ false → run_of t steps values folds ≡ stopped t RecordBreaksLimit
  unfolding run_of
  broken h = rw h

  module _ (h : within_of t ≡ true) where
    pub few-values : length values < length steps → run_of t steps values folds ≡ stopped t OutputTooShort
    unfolding run_of
    few-values k = rw (h, lt-leb (length steps) (length values) k)

    module _ (room : length steps ≤ length values) where
      pub few-folds : length folds < length steps → run_of t steps values folds ≡ stopped t OutputTooShort
      unfolding run_of
      few-folds k = rw (h, le-leb (length steps) (length values) room, lt-leb (length steps) (length folds) k)

      pub runs : length steps ≤ length folds → run_of t steps values folds ≡ course_of steps t
      unfolding run_of
      runs k = rw (h, le-leb (length steps) (length values) room, le-leb (length steps) (length folds) k)
