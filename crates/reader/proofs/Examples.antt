-- The request's own numbers, and a log with a repeat, computed from the definition. Assumes nothing.
use Rattle.std.specs.Prelude.{None, Some}
use Rattle.std.proofs.Common.{◌≡◌, ℕ, ◌+◌, ◌%◌, false, List, [], ◌∷◌, ◌++◌, refl, arith, lit<, lit≤}
use lib.Ieee.{add, sub, mul, neg, sum, lt, le, eq, round, of_int, of_bits, to_bits}
use Rattle.math.specs.Lists.{split}
use Rattle.math.specs.Rounded.{zero_f, one_f}
use Rattle.easing.specs.declared.kinds.Easing.TheVariants.{Linear}
use Rattle.easing.specs.Kinds.{curve_of, supplied_of}
use Rattle.easing.specs.Params.{params_of, within_of as params_within}
use Rattle.easing.specs.Apply.{fits_record_of}
use Rattle.loop_mode.specs.declared.Loop.TheVariants.{Forever}
use Rattle.loop_mode.specs.Passes.{within_of as mode_within}
use Rattle.tween.specs.declared.record.Tween.{Tween}
use Rattle.tween.specs.declared.record.TweenState.TheVariants.{Running}
use Rattle.tween.specs.Limits.{settings_within, clock_within, within_of}
use Rattle.tween.specs.Calls.{reset_of}
use Rattle.folds.specs.Folds.{fold_once, due, folds_of}
use Rattle.tween.specs.Update.{folded, advanced, wait_of, run_of, by_state, update_of}
use Rattle.history.specs.History.{Act, step, after_all, Settings, Holds}
use Rattle.event_log.specs.declared.event.Event.TheVariants.{Step}
use Rattle.event_log.specs.Format.{head, record_of}
use Rattle.reader.specs.Records.{is_wrong, event_in}
use Rattle.reader.specs.Hearing.{gap_of, played_of, heard_of}
use Rattle.reader.specs.Reading.{Reading, reading_of, read_on_of, replay_of}
use Rattle.reader.proofs.Demanded.{replay-demand-3}

-- "0 for the first", whatever its number
pub first-gap : gap_of None 7 ≡ 0
first-gap = refl

-- "513 means 512 missing"
pub gap-512 : gap_of (Some 7) 520 ≡ 512
gap-512 = refl

-- "wrapping"
pub gap-wraps : gap_of (Some 65535) 0 ≡ 0
gap-wraps = refl

-- "The same number again gives 65,535"
pub same-again : gap_of (Some 7) 7 ≡ 65535
same-again = refl

-- "A loss of 65,535 or more can't be told rightly": of 65,535 it looks like a repeat, of 65,536 like none
pub lost-65535 : gap_of (Some 7) ((8 + 65535) % 65536) ≡ 65535
lost-65535 = refl

pub lost-65536 : gap_of (Some 7) ((8 + 65536) % 65536) ≡ 0
lost-65536 = refl

-- Forever, a pass takes 1 s; just reset
pub t : Tween
t =
    record {
      start = zero_f;
      end = one_f;
      duration = one_f;
      easing = Linear;
      delay = zero_f;
      time_scale = one_f;
      looping = Forever;
      elapsed = zero_f;
      delay_elapsed = zero_f;
      state = Running;
      loop_count = 0;
      ping_pong_reverse = false;
    }

-- number 0 twice, each a step of 1 s
pub twice : List ℕ
twice = head ++ record_of 0 (Step one_f) ++ record_of 0 (Step one_f)

pub reading : Reading
reading = replay_of t twice (0 ∷ 0 ∷ [])

computing : Unit {0}
unfolding reading twice t replay_of read_on_of reading_of split heard_of is_wrong event_in played_of reset_of update_of by_state wait_of run_of advanced folded folds_of fold_once due within_of settings_within clock_within fits_record_of supplied_of curve_of params_of params_within mode_within add sub mul neg sum round of_int le lt eq of_bits to_bits
computing = tt

-- the second is a repeat and "is not replayed": one fold
pub repeat-gaps : reading.gaps ≡ 0 ∷ 65535 ∷ []
unfolding computing
repeat-gaps = refl

pub repeat-folds : reading.replay.folds ≡ 1
unfolding computing
repeat-folds = refl

-- and no gap: demand 3 holds, of one step
acts : List Act
acts = step 1 ∷ []

settings : Settings t 1 0 1
unfolding computing
settings = record { duration-is = tt; duration-from = omega arith; duration-to = omega arith; delay-is = tt; delay-to = omega arith; scale-is = tt; scale-from = omega arith; scale-to = omega arith }

pub repeat-demanded : Holds Forever 1 1 1 (record { tween = reading.replay.tween; taken = 1; made = reading.replay.folds })
unfolding computing acts after_all
repeat-demanded = replay-demand-3 t t 1 0 1 settings refl twice (0 ∷ 0 ∷ []) acts (lit≤ tt, tt) refl refl (lit< tt)
