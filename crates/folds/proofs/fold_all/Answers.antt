-- `fold_all` meets its contract: from each turn on, the folds that are left come to those of the start. Assumes nothing.
use Prim.Native.Nat.{◌+◌, ◌-◌}
use native.Mathlib.Omega.{arith}
use mathlib.Core.Path.{◌≡◌, refl, ap, ◌∙◌}
use mathlib.Core.Bool.{not}
use Rattle.folds.specs.declared.Folding.{Folding}
use Rattle.folds.proofs.Folds.{folds-none, folds-done, folds-next, count-grows}
use Rattle.folds.proofs.Ways.{fold-counts}
use Rattle.folds.proofs.fold_all.Goals as goal

pub returns-then-not-is_due : goal.returns-then-not-is_due
returns-then-not-is_due c = folds-done _ _ _ _ _ c.is_due.ensures (ap not c.if-not-is_due.true) ∙ c.loop-turn.invariant.0

pub loop-turn-preserved : goal.loop-turn-preserved
loop-turn-preserved c =
    let less : 4096 - (c.loop-turn.turn + 1) ≡ 4096 - c.loop-turn.turn - 1 = omega arith in (
      rw less (folds-next _ _ _ _ _ _ c.is_due.ensures (ap not c.if-not-is_due.false) (omega (arith, c.loop-turn-test.true)) c.fold_once-p.ensures ∙ c.loop-turn.invariant.0),
      omega (arith, c.loop-turn-test.true),
      ap (λ (p : Folding). p.folds) c.fold_once-p.ensures ∙ fold-counts _ _ _ ∙ ap (λ n. n + 1) c.loop-turn.invariant.2,
      omega (arith, ap (λ (p : Folding). p.loop_count) c.fold_once-p.ensures, count-grows c.args.looping c.args.duration c.loop-turn.p, c.loop-turn.invariant.3),
    )

pub returns : goal.returns
returns c =
    let none : 4096 - c.loop-turn.turn ≡ 0 = omega (arith, c.loop-turn-test.false) in
    simp (none, folds-none) at c.loop-turn.invariant.0
