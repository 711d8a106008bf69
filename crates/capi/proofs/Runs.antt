-- What a run and a replay leave, put together from its parts. Assumes nothing.
use Prim.Native.Nat.{ℕ}
use mathlib.Core.Path.{◌≡◌, refl}
use mathlib.Core.Bool.{Bool}
use mathlib.Core.List.{List}
use lib.Ieee.{Float}
use Rattle.steps.specs.declared.run.Run.{Run}
use Rattle.steps.specs.Course.{Course, answer_of, outcome_number, over}
use Rattle.reader.specs.declared.read.Replayed.{Replayed}
use Rattle.reader.specs.Reading.{Reading, answer_of as read_as}
use Rattle.capi.specs.Answers.{answering}
use Rattle.capi.specs.Tweens.{Running, ran_words, ran_out, ran_in}
use Rattle.capi.specs.Replays.{Replaying, replayed_words, replayed_reached, replayed_in}

pub ran-as : (came : Running) (course : Course) (run : Run) (n : ℕ) (ws out folds : List ℕ) (values : List Float) → run ≡ answer_of course → n ≡ outcome_number run.outcome → ws ≡ ran_words came.words run → out ≡ ran_out came.out run → values ≡ over course.values came.values → folds ≡ over course.folds came.folds
    → answering n (record { words = ws; values = values; folds = folds; out = out }) ≡ ran_in came course
unfolding ran_in
ran-as came course run n ws out folds values e a b c d f = rw (a, b, c, d, f, e) refl

pub replayed-as : (sound : Bool) (came : Replaying) (reading : Reading) (r : Replayed) (n : ℕ) (ws gaps reached : List ℕ) → r ≡ read_as reading → n ≡ outcome_number r.outcome → ws ≡ replayed_words sound came.words r → reached ≡ replayed_reached came.reached r → gaps ≡ over reading.gaps came.gaps
    → answering n (record { words = ws; gaps = gaps; reached = reached }) ≡ replayed_in sound came reading
unfolding replayed_in
replayed-as sound came reading r n ws gaps reached e a b c d = rw (a, b, c, d, e) refl
