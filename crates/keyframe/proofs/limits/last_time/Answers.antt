-- `last_time` meets its contract. Assumes nothing.
use Rattle.std.proofs.Common.{◌≡◌, length, sym, arith}
use lib.Ieee.{of_bits}
use Rattle.keyframe.proofs.Records.{frames-long, last-time, no-time}
use Rattle.keyframe.proofs.limits.last_time.Goals as goal

pub returns-then-n-eq0 : goal.returns-then-n-eq0
unfolding of_bits
returns-then-n-eq0 c = sym (no-time c.args.track.frames c.args.track.count c.if-n-eq0.true)

pub returns : goal.returns
unfolding of_bits
returns c = let t = c.args.track in let l : length t.frames ≡ 64 = frames-long t _ c.well_formed.0 in
    sym (last-time t.frames t.count (omega arith) c.if-n-eq0.false)
