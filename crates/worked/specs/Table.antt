-- Document 01, "Checked by hand": the starred examples, in its order.
use Rattle.std.specs.Prelude.{List, [], ◌∷◌}
use Rattle.easing.specs.declared.kinds.Easing.TheVariants.{EaseInQuad, EaseInOutQuad, EaseInOutCubic, EaseOutBounce, CubicBezier, Steps, SlowMo}
use Rattle.loop_mode.specs.declared.Loop.TheVariants.{Times, Forever, PingPongTimes}
use Rattle.tween.specs.declared.record.TweenState.TheVariants.{Completed}
use Rattle.worked.specs.Starred.{◌÷◌, folds, elapsed, state, reversed, value, step, refused, Row, eases, jumps, runs, tween, AllHold}

abbrev pub table : List Row
table =
    -- Q1, Q2, Q3
    eases EaseInQuad (5 ÷ 10) (25 ÷ 100)
    ∷ eases EaseInOutCubic (25 ÷ 100) (625 ÷ 10000)
    ∷ eases EaseInOutQuad (75 ÷ 100) (875 ÷ 1000)
    -- S1, W3C's answer to S1, S2, S3
    ∷ eases (Steps 4) (1 ÷ 10) (25 ÷ 100)
    ∷ jumps 4 (1 ÷ 10) (0 ÷ 1)
    ∷ eases (Steps 4) (25 ÷ 100) (25 ÷ 100)
    ∷ eases (Steps 0) (5 ÷ 10) (1 ÷ 1)
    -- B1, B2, M1
    ∷ eases (CubicBezier (0 ÷ 1) (0 ÷ 1) (1 ÷ 1) (1 ÷ 1)) (5 ÷ 10) (5 ÷ 10)
    ∷ eases EaseOutBounce (25 ÷ 100) (47265625 ÷ 100000000)
    ∷ eases (SlowMo (5 ÷ 10) (2 ÷ 1)) (125 ÷ 1000) (1875 ÷ 10000)
    -- T1
    ∷ runs (tween 3 2 (Times 4) 0 1)
    (step 3 (folds 0 ∷ elapsed 1 ∷ [])
    ∷ step 5 (folds 2 ∷ elapsed 0 ∷ [])
    ∷ step 100 (folds 2 ∷ elapsed 3 ∷ state Completed ∷ [])
    ∷ [])
    -- T2, with two passes and with three
    ∷ runs (tween 2 0 (PingPongTimes 2) 10 20) (step 5 (folds 2 ∷ reversed ∷ value 10 ∷ []) ∷ [])
    ∷ runs (tween 2 0 (PingPongTimes 3) 10 20) (step 6 (folds 3 ∷ value 20 ∷ []) ∷ [])
    -- T3, at 4,096 and at 4,097
    ∷ runs (tween 1 0 Forever 0 1) (step 4096 (folds 4096 ∷ elapsed 0 ∷ []) ∷ [])
    ∷ runs (tween 1 0 Forever 0 1) (refused 4097 7 ∷ [])
    ∷ []

-- "Marked * are proved of the definitions as a single table under a single statement"
abbrev pub Starred : Type 0
Starred = AllHold table
