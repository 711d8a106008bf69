-- `insert` meets its contract. The invariant: the frames from j on have moved one place up. Assumes nothing.
use Prim.Native.Nat.{◌+◌, ◌-◌}
use mathlib.Core.Path.{◌≡◌}
use lib.ListN.{length}
use native.Mathlib.Omega.{arith}
use borrow.Author.Rules.{rules}
use Rattle.frames.proofs.Walks.{array_long}
use Rattle.frames.proofs.Shifts.{open_none, open_step, open-put}
use Rattle.frames.proofs.pushing.insert.Goals as goal

pub loop-j-init : goal.loop-j-init
loop-j-init c = let l : length c.args.frames ≡ 64 = array_long c.args.frames _ c.well_formed.0 in
    (c.requires.0, search rules, open_none c.args.frames c.args.n (omega arith))

pub loop-j-preserved : goal.loop-j-preserved
loop-j-preserved c = let fs = c.args.frames in let n = c.args.n in let l : length fs ≡ 64 = array_long fs _ c.well_formed.0 in
    let up : c.loop-j.j - 1 + 1 ≡ c.loop-j.j = omega arith in
    (omega arith, omega arith, rw up (open_step fs n (omega arith) c.loop-j.j c.loop-j.g (omega arith) (omega arith) c.loop-j.invariant.2))

pub returns : goal.returns
returns c = let l : length c.args.frames ≡ 64 = array_long c.args.frames _ c.well_formed.0 in
    let e : c.loop-j.j ≡ c.args.p = omega arith in
    rw (c.loop-j.invariant.2, e) (open-put c.args.frames c.args.n (omega arith) c.args.p c.args.k (omega arith))
