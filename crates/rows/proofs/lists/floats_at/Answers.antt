-- `floats_at` meets its contract. The invariant: the first i places hold their floats. Assumes nothing.
use Prim.Native.Nat.{◌+◌}
use mathlib.Core.Path.{◌≡◌, refl, ◌∙◌}
use mathlib.Core.List.{append-nil}
use native.Mathlib.Omega.{arith}
use lib.ListN.{length-set}
use Rattle.words.specs.Lent.{float_at}
use Rattle.rows.proofs.Filled.{fill_none, fill_one}
use Rattle.rows.proofs.lists.floats_at.Goals as goal

pub loop-i-init : goal.loop-i-init
loop-i-init c = (refl, fill_none _ _)

pub loop-i-preserved : goal.loop-i-preserved
loop-i-preserved c = (simp length-set c.loop-i.invariant.0, rw (c.float_at.ensures, c.loop-i.invariant.1) (fill_one (λ k. float_at c.args.words (c.args.from + k)) _ c.loop-i.i (omega arith)))

pub returns : goal.returns
returns c = let e : c.loop-i.i ≡ 128 = omega arith in
    (c.loop-i.invariant.0, (rw e at c.loop-i.invariant.1) ∙ append-nil _)
