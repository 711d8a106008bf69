-- `put` meets its contract, by where the frame goes. Assumes nothing.
use Prim.Native.Nat.{◌<◌, ◌≤◌}
use mathlib.Core.Path.{◌≡◌}
use mathlib.Core.Bool.{false}
use lib.ListN.{length, get_or}
use lib.Seq.{length-take-le}
use lib.Ieee.{eq}
use native.Mathlib.Omega.{arith}
use Rattle.frames.specs.Limits.{no_frame}
use Rattle.frames.proofs.Walks.{array_long}
use Rattle.frames.proofs.Places.{put_same, put-new, put_full}
use Rattle.frames.proofs.pushing.put.Goals as goal
use Rattle.frames.proofs.pushing.put.Goals.{Joined-p-n, Start, then-p-n+else-frames-p, else-p-n}

long : (c : Start) → c.args.n ≤ length c.args.frames
long c =
    let l : length c.args.frames ≡ 64 = array_long c.args.frames _ c.well_formed.0 in
    omega arith

-- where the two ways meet, no frame has the time
other : (c : Joined-p-n) → c.earlier-p.result < c.args.n → eq (get_or c.args.frames c.earlier-p.result no_frame).time c.args.k.time ≡ false
other c h = elim c.if-p-n.branch [ then-p-n+else-frames-p w ↦ w.if-frames-p.false | else-p-n w ↦ absurd (omega arith) ]

pub returns-then-frames-p : goal.returns-then-frames-p
returns-then-frames-p c = put_same c.args.frames c.args.n c.args.k (long (goal.at.returns-then-frames-p c).Start) c.requires c.earlier-p.result c.earlier-p.ensures.1 c.if-p-n.true c.if-frames-p.true

pub returns-then-n-lt64 : goal.returns-then-n-lt64
returns-then-n-lt64 c = rw c.insert-g.ensures (put-new c.args.frames c.args.n c.args.k (long (goal.at.returns-then-n-lt64 c).Start) c.requires c.earlier-p.result c.earlier-p.ensures.1 (omega (arith, c.earlier-p.ensures.0, length-take-le c.args.n c.args.frames (long (goal.at.returns-then-n-lt64 c).Start))) (other (goal.at.returns-then-n-lt64 c).Joined-p-n) c.if-n-lt64.true)

pub returns : goal.returns
returns c = put_full c.args.frames c.args.n c.args.k (long (goal.at.returns c).Start) c.requires c.earlier-p.result c.earlier-p.ensures.1 (omega (arith, c.earlier-p.ensures.0, length-take-le c.args.n c.args.frames (long (goal.at.returns c).Start))) (other (goal.at.returns c).Joined-p-n) c.if-n-lt64.false
