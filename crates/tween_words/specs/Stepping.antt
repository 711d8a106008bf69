-- What the common way of an update says.
use Rattle.std.specs.Prelude.{ℕ, ◌≡◌, Bool, true, false, not, List, eqb, Float, set, None, Option, Some}
use Rattle.math.specs.Rounded.{zero_f}
use Rattle.loop_mode.specs.declared.Loop.{Loop}
use Rattle.folds.specs.declared.Folding.{Folding}
use Rattle.folds.specs.Folds.{fold_once}
use Rattle.tween.specs.declared.record.Tween.{Tween}
use Rattle.tween.specs.Update.{updated, update_of}
use Rattle.words.specs.Modes.{flag_word}
use Rattle.words.specs.Tweens.{tween_from}
use Rattle.words.specs.Lent.{word_at, tween_in, tween_into}
use Rattle.tween_words.specs.declared.stepping.Turn.{Turn}
use Rattle.tween_words.specs.declared.stepping.Slid.{Slid}
use Rattle.tween_words.specs.declared.stepping.Slid.TheVariants.{To, Waits, Stays, Folded, Ended}
use Rattle.tween_words.specs.declared.stepping.Stepped.{Stepped}

abbrev pub turn_from : Folding → Turn
turn_from p = record { count = p.loop_count; flag = flag_word p.ping_pong_reverse; done = p.completed }

-- a fold hangs on neither the duration nor the elapsed, but for the elapsed that it leaves
unfoldable pub turn_of : Loop → ℕ → ℕ → Turn
turn_of l count flag =
    turn_from
    (fold_once l zero_f
    (record { elapsed = zero_f; loop_count = count; ping_pong_reverse = not (eqb flag 0); completed = false; folds = 0 }))

-- the tween that is read runs on, with these folds, and then has these words
pub record Steps (ws : List ℕ) (x : Float) (folds : ℕ) (running : Bool) (after : List ℕ) : Type 0 where
  pub from : Tween
  pub to : Tween
  pub read : tween_from (tween_in ws) ≡ Some from
  pub ran : update_of from x ≡ updated to folds running
  pub words : after ≡ tween_into ws to

abbrev pub SlidesTo : List ℕ → Float → Option Slid → Type 0
SlidesTo ws x (Some (To e)) = Steps ws x 0 true (set ws 13 e)
SlidesTo ws x (Some (Waits s)) = Steps ws x 0 true (set ws 14 s)
SlidesTo ws x (Some (Stays running)) = Steps ws x 0 running ws
SlidesTo ws x (Some (Folded e n f)) = Steps ws x 1 true (set (set (set ws 13 e) 16 n) 17 f)
SlidesTo ws x (Some (Ended n f)) = Steps ws x 1 false (set (set (set (set ws 13 (word_at ws 2)) 15 3) 16 n) 17 f)
SlidesTo ws x None = Unit {0}

-- these are the words afterwards
abbrev pub StepsTo : List ℕ → Float → List ℕ → Option Stepped → Type 0
StepsTo ws x after (Some s) = Steps ws x s.folds s.running after
StepsTo ws x after None = after ≡ ws
