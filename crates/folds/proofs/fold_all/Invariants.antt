-- `fold_all` meets its contract: from each turn on, the folds that are left come to those of the start. Assumes nothing.
use Prim.Native.Nat.{◌+◌, ◌-◌, ◌≤◌}
use mathlib.Core.Path.{◌≡◌}
use Rattle.folds.specs.Folds.{due, folds_of}
use Rattle.folds.proofs.fold_all.Given as goal

abbrev pub invariant-loop-turn : goal.invariant-loop-turn
invariant-loop-turn l =
    (folds_of (4096 - l.turn) (due l.duration l.p) l.looping l.duration l.p ≡ folds_of 4096 (due l.duration l.initial.p) l.looping l.duration l.initial.p)
    × (l.turn ≤ 4096)
    × (l.p.folds ≡ l.turn)
    × (l.p.loop_count ≤ 16777216 + l.turn)
