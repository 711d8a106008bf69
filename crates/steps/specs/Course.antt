-- A run of steps, by `update` and `value` and nothing else.
use Rattle.std.specs.Prelude.{ℕ, suc, not, ◌&&◌, cond, List, [], ◌∷◌, ◌++◌, leb, length, drop, Float, Err, Ok, Result, ⊤}
use Rattle.bezier.specs.declared.types.Found.{Found}
use Rattle.refusal.specs.declared.Refusal.{Refusal}
use Rattle.refusal.specs.declared.Refusal.TheVariants.{RecordBreaksLimit, OutputTooShort}
use Rattle.refusal.specs.Number.{number_of}
use Rattle.refusal.specs.Refusing.{unless, done}
use Rattle.tween.specs.declared.record.Tween.{Tween}
use Rattle.tween.specs.declared.answers.Updated.{Updated}
use Rattle.tween.specs.Limits.{within_of}
use Rattle.tween.specs.Calls.{value_of}
use Rattle.tween.specs.Update.{update_of}
use Rattle.steps.specs.declared.take.Taken.{Taken}
use Rattle.steps.specs.declared.run.Run.{Run}
use Rattle.refusal.specs.declared.rejected.Rejected.{Rejected}

-- the value behind an update; where it is refused, so is the step
abbrev pub valued : Tween → ℕ → Result Found Refusal → Result Taken Refusal
valued u k (Ok f) = Ok (record { tween = u; found = f; folds = k })
valued u k (Err r) = Err r

abbrev pub taken : Result Updated (Rejected Tween) → Result Taken Refusal
taken (Ok o) = valued o.tween o.folds (value_of o.tween)
taken (Err o) = Err o.refusal

-- one step: an update, and the value behind it
unfoldable pub step_of : Tween → Float → Result Taken Refusal
step_of t x = taken (update_of t x)

-- how a run ended, as a number: a refusal's, 0 for none
abbrev pub outcome_number : Result ⊤ Refusal → ℕ
outcome_number (Ok tt) = 0
outcome_number (Err r) = number_of r

-- what a run comes to: the tween, the value and the folds of each step that was taken, how many of the values are not settled, and how it ended. Request 1: "Values don't change": a value is what was found, without the search behind it
pub record Course : Type 0 where
  pub tween : Tween
  pub values : List Float
  pub folds : List ℕ
  pub unsettled : ℕ
  pub outcome : Result ⊤ Refusal

-- nothing taken
abbrev pub ended : Tween → Result ⊤ Refusal → Course
ended t o = record { tween = t; values = []; folds = []; unsettled = 0; outcome = o }

-- nothing taken, and refused
abbrev pub stopped : Tween → Refusal → Course
stopped t r = ended t (Err r)

-- Request 1, for a run as for a batch: "how many of its samples weren't" settled. n is how many behind this one are not
abbrev pub counting : Found → ℕ → ℕ
counting f n = cond (not f.settled) (suc n) n

-- a step that was taken, and the rest; or the first refusal, with the tween as it stood
abbrev pub followed : Result Taken Refusal → Tween → (Tween → Course) → Course
followed (Ok o) t rest =
    let c = rest o.tween in
    record {
      tween = c.tween;
      values = o.found.value ∷ c.values;
      folds = o.folds ∷ c.folds;
      unsettled = counting o.found c.unsettled;
      outcome = c.outcome;
    }
followed (Err r) t rest = stopped t r

unfoldable pub course_of : List Float → Tween → Course
course_of [] t = ended t done
course_of (x ∷ steps) t = followed (step_of t x) t (course_of steps)

-- 4; 12 where a lent list is shorter than the steps
unfoldable pub run_of : Tween → List Float → List Float → List ℕ → Course
run_of t steps values folds =
    unless (within_of t) (stopped t RecordBreaksLimit)
    (unless (leb (length steps) (length values) && leb (length steps) (length folds)) (stopped t OutputTooShort)
    (course_of steps t))

abbrev pub answer_of : Course → Run
answer_of c = record { tween = c.tween; done = length c.values; unsettled = c.unsettled; outcome = c.outcome }

-- a lent list afterwards: the front is written, what lies behind it stays
abbrev pub over : {A : Type 0} → List A → List A → List A
over front l = front ++ drop (length front) l
