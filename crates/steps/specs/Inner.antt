-- What the inner steps of a run promise. They are the code's: document 01 has none of them.
use Rattle.std.specs.Prelude.{ℕ, ◌+◌, ◌≤◌, ◌<◌, ◌≡◌, true, List, ◌++◌, length, drop, Float}
use Rattle.tween.specs.declared.record.Tween.{Tween}
use Rattle.tween.specs.Limits.{within_of}
use Rattle.steps.specs.declared.gliding.Stretch.{Stretch}
use Rattle.steps.specs.Course.{Course, course_of}

-- a front of i places is written, and behind it a list is as it was
abbrev pub Written : {A : Type 0} → List A → ℕ → List A → List A → Type 0
Written {A} front i l was = (length front ≡ i) × (l ≡ front ++ drop i was)

-- values, folds and a count that come before those of a course
abbrev pub behind : List Float → List ℕ → ℕ → Course → Course
behind vs fs n c =
    record { tween = c.tween; values = vs ++ c.values; folds = fs ++ c.folds; unsettled = n + c.unsettled; outcome = c.outcome }

-- a run of these steps from t₀ over these lists has taken i of them: it stands at t, with n values that are not settled, and its course is what was written and the course from here
pub record Reached
    (steps values₀ : List Float) (folds₀ : List ℕ) (t₀ : Tween)
    (values : List Float) (folds : List ℕ) (t : Tween) (n i : ℕ) : Type 0 where
  pub front : List Float
  pub counts : List ℕ
  pub values-are : Written front i values values₀
  pub folds-are : Written counts i folds folds₀
  pub course-is : course_of steps t₀ ≡ behind front counts n (course_of (drop i steps) t)
  pub values-long : length values ≡ length values₀
  pub folds-long : length folds ≡ length folds₀
  pub within : within_of t ≡ true
  pub few : i ≤ length steps
  pub few-unsettled : n < i + 1

-- a run that had reached step i goes on to the end of a stretch
abbrev pub ReachesOn : List Float → List Float → List ℕ → Tween → ℕ → ℕ → List Float → List ℕ → Stretch → Type 0
ReachesOn steps values folds t n i values₁ folds₁ r =
    (i ≤ r.next)
    × ((values₀ : List Float) (folds₀ : List ℕ) (t₀ : Tween)
    → Reached steps values₀ folds₀ t₀ values folds t n i
    → Reached steps values₀ folds₀ t₀ values₁ folds₁ r.tween r.unsettled r.next)
