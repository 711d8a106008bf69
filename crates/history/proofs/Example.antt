-- T1 by demand 3, so that its conditions are met by a tween: "Duration 3, delay 2, Times(4), scale 1, steps 3, 5, 100: folds 0, 2, 2; elapsed 1, 0, 3; Completed". Assumes nothing.
use Rattle.std.specs.Prelude.{Ok}
use Prim.Native.Nat.{ℕ}
use native.Mathlib.Omega.{arith}
use mathlib.Core.Path.{◌≡◌, refl, subst}
use mathlib.Core.Bool.{true, false}
use mathlib.Core.List.{List, [], ◌∷◌}
use lib.Dec.{lit≤}
use lib.Ieee.{add, sub, mul, neg, sum, lt, le, eq, round, of_int, of_bits}
use Rattle.math.specs.Rounded.{f32, zero_f, one_f}
use Rattle.math.specs.Whole.{Is}
use Rattle.easing.specs.declared.kinds.Easing.TheVariants.{Linear}
use Rattle.easing.specs.Kinds.{curve_of, supplied_of}
use Rattle.easing.specs.Params.{params_of, within_of as params_within}
use Rattle.easing.specs.Apply.{fits_record_of}
use Rattle.loop_mode.specs.declared.Loop.TheVariants.{Times}
use Rattle.loop_mode.specs.Passes.{limit_of, within_of as mode_within}
use Rattle.tween.specs.declared.record.Tween.{Tween}
use Rattle.tween.specs.declared.record.TweenState.TheVariants.{Running}
use Rattle.tween.specs.Parts.{put}
use Rattle.tween.specs.Limits.{settings_within, clock_within, within_of}
use Rattle.tween.specs.Calls.{at_start, reset_of}
use Rattle.folds.specs.Folds.{fold_once, due, folds_of}
use Rattle.tween.specs.Update.{folded, advanced, wait_of, run_of, by_state, update_of}
use Rattle.tween.specs.Promises.{is_completed}
use Rattle.history.specs.History.{Act, step, Past, after_all, fresh, scaled, Settings, Holds}
use Rattle.history.proofs.Demand.{demand-3}

t : Tween
t =
    record {
      start = zero_f;
      end = one_f;
      duration = f32 0x4040_0000;
      easing = Linear;
      delay = f32 0x4000_0000;
      time_scale = one_f;
      looping = Times 4;
      elapsed = zero_f;
      delay_elapsed = zero_f;
      state = Running;
      loop_count = 0;
      ping_pong_reverse = false;
    }

settings : Settings t 3 2 1
unfolding t eq of_int round of_bits
settings = record { duration-is = tt; duration-from = omega arith; duration-to = omega arith; delay-is = tt; delay-to = omega arith; scale-is = tt; scale-from = omega arith; scale-to = omega arith }

accepted : reset_of t ≡ Ok (put (at_start t) t)
unfolding t reset_of within_of settings_within clock_within fits_record_of supplied_of curve_of params_of params_within mode_within le lt eq of_bits
accepted = refl

steps : List Act
steps = step 3 ∷ step 5 ∷ step 100 ∷ []

pub end_of : Past
end_of = after_all (fresh (put (at_start t) t)) steps

-- H is 108 and A 106
all-taken : end_of.taken ≡ 108
unfolding end_of steps t after_all update_of by_state wait_of run_of advanced folded folds_of fold_once due within_of settings_within clock_within fits_record_of supplied_of curve_of params_of params_within mode_within add sub mul neg sum round of_int le lt eq of_bits
all-taken = refl

shown : Holds (Times 4) 3 1 106 end_of
unfolding end_of steps t
shown = subst (λ (H : ℕ). Holds (Times 4) 3 1 (scaled 1 2 H) end_of) all-taken (demand-3 t (put (at_start t) t) 3 2 1 settings accepted steps (lit≤ tt, (lit≤ tt, (lit≤ tt, tt))))

pub t1 : (end_of.made ≡ 4) × Is end_of.tween.elapsed 3
unfolding limit_of
t1 =
    let c : is_completed end_of.tween.state ≡ true = shown.completed-is in
    (shown.folds-are, rw c at shown.elapsed-is)
