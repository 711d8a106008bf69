-- `earlier` meets its contract. The invariant: i frames are passed, and those that follow them are counted from i on. Assumes nothing.
use mathlib.Core.Path.{◌≡◌}
use lib.ListN.{length}
use lib.Seq.{take-length}
use lib.Ieee.{lt}
use native.Mathlib.Omega.{arith}
use Rattle.frames.specs.declared.frame.Keyframe.{Keyframe}
use Rattle.frames.proofs.Walks.{lead-yes, lead-no, lead-end}
use Rattle.frames.proofs.pushing.earlier.Goals as goal

pub loop-i-preserved : goal.loop-i-preserved
loop-i-preserved c = let y = (rw take-length at (lead-yes c.args.frames.now (length c.args.frames.now) (omega arith) (λ (k : Keyframe). lt k.time c.args.time) c.loop-i.i (omega arith) c.if-not-frames-i.false)) in
    (omega arith, omega (arith, c.loop-i.invariant.1))

pub returns-then-not-frames-i : goal.returns-then-not-frames-i
returns-then-not-frames-i c = let y = (rw take-length at (lead-no c.args.frames.now (length c.args.frames.now) (omega arith) (λ (k : Keyframe). lt k.time c.args.time) c.loop-i.i (omega arith) c.if-not-frames-i.true)) in
    (omega arith, omega (arith, c.loop-i.invariant.1))

pub returns : goal.returns
returns c = let e : c.loop-i.i ≡ length c.args.frames.now = omega arith in
    let y = rw e at c.loop-i.invariant.1 in
    (omega arith, omega (arith, (rw take-length at (lead-end c.args.frames.now (length c.args.frames.now) (omega arith) (λ (k : Keyframe). lt k.time c.args.time)))))
