-- `interval` meets its contract. The invariant: what is counted and what is left to count make the whole count. Assumes nothing.
use Prim.Native.Nat.{◌-◌}
use native.Mathlib.Omega.{arith}
use borrow.Author.Rules.{rules}
use mir.Syntax.{w32}
use mir.Val.{Fits}
use lib.Ieee.{Float, le}
use Rattle.math.proofs.Tallies.{byte-below}
use Rattle.frames.proofs.Counts.{byte_fits, count_next, count_past, not-nan}
use Rattle.frames.proofs.search.interval.Goals as goal

pub loop-i-preserved : goal.loop-i-preserved
loop-i-preserved c = (search (rules, byte-below), omega arith, omega (arith, c.loop-i.invariant.2, count_next (λ (x : Float). le x c.args.t) c.args.times.now (c.args.n - 1) c.loop-i.i c.loop-i-test.true (λ _. not-nan c.args.t)))

pub returns : goal.returns
returns c = (omega arith, omega (arith, c.loop-i.invariant.2, count_past (λ (x : Float). le x c.args.t) c.args.times.now (c.args.n - 1) c.loop-i.i c.loop-i-test.false))
