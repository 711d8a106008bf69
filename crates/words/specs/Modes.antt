-- A loop mode and a tween's state as words, for the C interface.
use Rattle.std.specs.Prelude.{ℕ, Bool, cond, ltb, eqb, None, Option, Some}
use Rattle.loop_mode.specs.declared.Loop.{Loop}
use Rattle.loop_mode.specs.declared.Loop.TheVariants.{Once, Times, Forever, PingPong, PingPongTimes}
use Rattle.tween.specs.declared.record.TweenState.{TweenState}
use Rattle.tween.specs.declared.record.TweenState.TheVariants.{Idle, Running, Paused, Completed}
use Rattle.words.specs.declared.modes.LaxLoop.{LaxLoop}

-- one of the five
abbrev pub is_mode : ℕ → Bool
is_mode m = ltb m 5

-- 0 Once, 1 Times, 2 Forever, 3 PingPong, 4 PingPongTimes
unfoldable pub loop_from : LaxLoop → Option Loop
loop_from w =
    cond (eqb w.mode 0) (Some Once)
    (cond (eqb w.mode 1) (Some (Times w.passes))
    (cond (eqb w.mode 2) (Some Forever)
    (cond (eqb w.mode 3) (Some PingPong)
    (cond (eqb w.mode 4) (Some (PingPongTimes w.passes)) None))))

unfoldable pub loop_words : Loop → LaxLoop
loop_words Once = record { mode = 0; passes = 0 }
loop_words (Times n) = record { mode = 1; passes = n }
loop_words Forever = record { mode = 2; passes = 0 }
loop_words PingPong = record { mode = 3; passes = 0 }
loop_words (PingPongTimes n) = record { mode = 4; passes = n }

-- 0 Idle, 1 Running, 2 Paused, 3 Completed
unfoldable pub state_from : ℕ → Option TweenState
state_from w =
    cond (eqb w 0) (Some Idle)
    (cond (eqb w 1) (Some Running)
    (cond (eqb w 2) (Some Paused)
    (cond (eqb w 3) (Some Completed) None)))

unfoldable pub state_word : TweenState → ℕ
state_word Idle = 0
state_word Running = 1
state_word Paused = 2
state_word Completed = 3

abbrev pub flag_word : Bool → ℕ
flag_word b = cond b 1 0
