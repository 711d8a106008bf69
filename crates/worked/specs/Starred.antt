-- Document 01, "Checked by hand": what a starred example says, and when it holds. Equality is bit for bit.
use Rattle.std.specs.Prelude.{ℕ, ◌≡◌, true, false, List, [], ◌∷◌, Float, Ok, Result}
use Rattle.std.proofs.Common.{inr, Err}
use Rattle.std.specs.Float.{binary32}
use Rattle.std.specs.Float.Ieee.{round}
use Rattle.math.specs.Rounded.{one_f, zero_f}
use Rattle.refusal.specs.Number.{number_of}
use Rattle.curves.specs.Stairs.{jump_end_of}
use Rattle.easing.specs.declared.kinds.Easing.{Easing}
use Rattle.easing.specs.declared.kinds.Easing.TheVariants.{Linear}
use Rattle.easing.specs.Apply.{apply_of}
use Rattle.easing.specs.Values.{value_part}
use Rattle.loop_mode.specs.declared.Loop.{Loop}
use Rattle.tween.specs.declared.record.Tween.{Tween}
use Rattle.tween.specs.declared.record.TweenState.{TweenState}
use Rattle.tween.specs.declared.record.TweenState.TheVariants.{Running}
use Rattle.tween.specs.declared.answers.Updated.{Updated}
use Rattle.tween.specs.Calls.{value_of, reset_of}
use Rattle.tween.specs.Update.{update_of}
use Rattle.refusal.specs.declared.Rejected.{Rejected}
use Rattle.refusal.specs.Refusing.{rejected}

-- the f32 nearest to m / n
infix 8 ◌÷◌
abbrev pub ◌÷◌ : ℕ → ℕ → Float
m ÷ n = round binary32 false m n

-- exact up to 16,777,216
abbrev pub whole : ℕ → Float
whole n = n ÷ 1

-- what is said of the answer to a step, in whole numbers
pub data Said : Type 0 where
  folds : ℕ → Said
  elapsed : ℕ → Said
  state : TweenState → Said
  reversed : Said
  value : ℕ → Said

-- a step in seconds, with what is said of its answer, or with the number by which it is refused
pub data Step : Type 0 where
  step : ℕ → List Said → Step
  refused : ℕ → ℕ → Step

pub data Row : Type 0 where
  -- a kind, t, and the eased t
  eases : Easing → Float → Float → Row
  -- W3C's steps(n, jump-end), t, and the eased t
  jumps : ℕ → Float → Float → Row
  -- a tween that is reset, and steps one after the other
  runs : Tween → List Step → Row

-- "Linear, delay 0, scale 1 unless said": the duration and the delay in seconds, the mode, start and end
abbrev pub tween : ℕ → ℕ → Loop → ℕ → ℕ → Tween
tween duration delay mode start end =
    record {
      start = whole start;
      end = whole end;
      duration = whole duration;
      easing = Linear;
      delay = whole delay;
      time_scale = one_f;
      looping = mode;
      elapsed = zero_f;
      delay_elapsed = zero_f;
      state = Running;
      loop_count = 0;
      ping_pong_reverse = false;
    }

-- what is said holds of the tween that an update handed back, or of the folds that it reported
abbrev pub Tells : Tween → ℕ → Said → Type 0
Tells t k (folds n) = k ≡ n
Tells t k (elapsed n) = t.elapsed ≡ whole n
Tells t k (state s) = t.state ≡ s
Tells t k reversed = t.ping_pong_reverse ≡ true
Tells t k (value n) = value_part (value_of t) ≡ inr (whole n)

abbrev pub TellsAll : Tween → ℕ → List Said → Type 0
TellsAll t k [] = Unit {0}
TellsAll t k (s ∷ ss) = Tells t k s × TellsAll t k ss

abbrev pub Accepted : List Said → Result Updated (Rejected Tween) → Type 0
Accepted says (Ok o) = TellsAll o.tween o.folds says
Accepted says (Err o) = ⊥

abbrev pub RefusedBy : ℕ → Result Updated (Rejected Tween) → Type 0
RefusedBy n (Ok o) = ⊥
RefusedBy n (Err o) = number_of o.refusal ≡ n

abbrev pub handed_back : Result Updated (Rejected Tween) → Tween
handed_back (Ok o) = o.tween
handed_back (Err o) = o.value

-- each step from where the one before it left the tween
abbrev pub Chain : List Step → Tween → Type 0
Chain [] t = Unit {0}
Chain (step n says ∷ steps) t = Accepted says (update_of t (whole n)) × Chain steps (handed_back (update_of t (whole n)))
Chain (refused n k ∷ steps) t = RefusedBy k (update_of t (whole n)) × Chain steps (handed_back (update_of t (whole n)))

-- "just reset"
abbrev pub FromReset : List Step → Result Tween (Rejected Tween) → Type 0
FromReset steps (Ok t) = Chain steps t
FromReset steps (Err o) = ⊥

abbrev pub Holds : Row → Type 0
Holds (eases e t v) = value_part (apply_of e t) ≡ inr v
Holds (jumps n t v) = jump_end_of t n ≡ v
Holds (runs t steps) = FromReset steps (reset_of t)

abbrev pub AllHold : List Row → Type 0
AllHold [] = Unit {0}
AllHold (r ∷ rs) = Holds r × AllHold rs
