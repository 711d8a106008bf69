-- `raise` meets its contract. The invariant: the words from j on have moved eight places up. Assumes nothing.
use Prim.Native.Nat.{suc, ◌*◌, ◌-◌}
use mathlib.Core.Path.{◌≡◌, refl}
use native.Mathlib.Omega.{arith}
use Rattle.track_words.specs.Inner.{raised_by}
use Rattle.track_words.proofs.pushing.raise.Goals as goal

pub loop-j-init : goal.loop-j-init
unfolding raised_by
loop-j-init c = let n = c.args.n in let e : 8 * n - 8 * n ≡ 0 = omega arith in
    (omega arith, omega arith, rw e refl)

pub loop-j-preserved : goal.loop-j-preserved
unfolding raised_by
loop-j-preserved c = let n = c.args.n in let j = c.loop-j.j in let e : 8 * n - (j - 1) ≡ suc (8 * n - j) = omega arith in
    let d : 8 * n - suc (8 * n - j) ≡ j - 1 = omega arith in
    (omega arith, omega arith, rw (e, d, ← c.loop-j.invariant.2) refl)
