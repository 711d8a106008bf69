-- `fill` meets its contract. The invariant: the first i places of out hold the samples at their times, and what did not settle among them and among those that are left makes the whole count. Assumes nothing.
use Prim.Native.Nat.{◌<◌, ◌+◌}
use mathlib.Core.Path.{◌≡◌, refl}
use native.Mathlib.Omega.{arith}
use borrow.Author.Rules.{rules}
use mir.Syntax.{w64}
use mir.Val.{Fits}
use lib.ListN.{length, length-set}
use lib.Seq.{take-length}
use lib.Ieee.{nan}
use Rattle.math.proofs.Tallies.{byte-below}
use Rattle.frames.specs.Sampling.{filled_of, unsettled_of}
use Rattle.frames.proofs.Fills.{fill_none, fill_more, fill-all}
use Rattle.frames.proofs.Counts.{byte_fits, count_next, count_past}
use Rattle.frames.proofs.filling.fill.Invariants.{at, off}
use Rattle.frames.proofs.filling.fill.Goals as goal

pub loop-i-init : goal.loop-i-init
unfolding filled_of unsettled_of
loop-i-init c = (search rules, refl, fill_none (at c.args.frames c.args.n) nan c.args.times.now c.args.out.now c.requires.3, search rules, rw take-length (omega arith))

pub loop-i-preserved : goal.loop-i-preserved
unfolding filled_of unsettled_of
loop-i-preserved c = let h : c.loop-i.i < length c.args.times.now = omega arith in
    let e = c.at-found.ensures in
    let q = count_next (off c.args.frames c.args.n) c.args.times.now (length c.args.times.now) c.loop-i.i h (λ k. absurd (omega (arith, k))) in
    (omega arith, simp length-set c.loop-i.invariant.1, rw (e, c.loop-i.invariant.2) (fill_more (at c.args.frames c.args.n) nan c.args.times.now c.args.out.now c.requires.3 c.loop-i.i h), search (rules, byte-below), rw e (omega (arith, q)))

pub returns : goal.returns
unfolding filled_of unsettled_of
returns c = let e : c.loop-i.i ≡ length c.args.times.now = omega arith in
    let q = count_past (off c.args.frames c.args.n) c.args.times.now (length c.args.times.now) c.loop-i.i (omega arith) in
    record { output = rw (c.loop-i.invariant.2, e) (fill-all (at c.args.frames c.args.n) nan c.args.times.now c.args.out.now c.requires.3); count = omega (arith, q) }
