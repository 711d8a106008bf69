-- `is_within_limits` meets its contract. The invariant: the frames from i on, after the last time, are fine where all are. Assumes nothing.
use Rattle.std.proofs.Common.{◌≡◌, ◌<◌, true, false, ◌&&◌, length, get_or, sym, refl, ◌∙◌, arith}
use lib.Ieee.{of_bits, neg, lt}
use Rattle.frames.specs.Limits.{frame_within, frames_within, no_frame}
use Rattle.keyframe.specs.Limits.{frames_in}
use Rattle.keyframe.proofs.Records.{frames-long, after-step, after-end, last-time, no-time, too_many, broken, clocked}
use Rattle.keyframe.proofs.types.Track.is_within_limits.Goals as goal
use Rattle.keyframe.proofs.types.Track.is_within_limits.Goals.{After-loop-i}

-- past the loop the frames are fine
after : (c : After-loop-i) → frames_within (frames_in c.args.self) ≡ true
after c =
    let t = c.args.self in let l : length t.frames ≡ 64 = frames-long t _ c.well_formed.0 in
    let e : c.loop-i.i ≡ t.count = omega arith in
    sym (rw e at c.loop-i.invariant.1) ∙ after-end t.frames t.count (omega arith) c.loop-i.last

pub returns-then-n-gt64 : goal.returns-then-n-gt64
unfolding of_bits neg
returns-then-n-gt64 c = too_many c.args.self c.if-n-gt64.true

pub loop-i-init : goal.loop-i-init
unfolding of_bits neg
loop-i-init c = (omega arith, refl)

pub loop-i-preserved : goal.loop-i-preserved
unfolding of_bits neg
loop-i-preserved c = let t = c.args.self in let h : c.loop-i.i < t.count = omega arith in
    let l : length t.frames ≡ 64 = frames-long t _ c.well_formed.0 in
    let k = get_or t.frames c.loop-i.i no_frame in
    let f : frame_within k && lt c.loop-i.last k.time ≡ true = rw (← c.is_within_limits.ensures) c.if-not-is_within_limits-last.false in
    (omega arith, sym (rw f at (after-step t.frames t.count (omega arith) c.loop-i.i c.loop-i.last h)) ∙ c.loop-i.invariant.1)

pub returns-then-not-is_within_limits-last : goal.returns-then-not-is_within_limits-last
unfolding of_bits neg
returns-then-not-is_within_limits-last c = let t = c.args.self in let h : c.loop-i.i < t.count = omega arith in
    let l : length t.frames ≡ 64 = frames-long t _ c.well_formed.0 in
    let k = get_or t.frames c.loop-i.i no_frame in
    let f : frame_within k && lt c.loop-i.last k.time ≡ false = rw (← c.is_within_limits.ensures) c.if-not-is_within_limits-last.true in
    broken t (omega arith) (sym (rw f at (after-step t.frames t.count (omega arith) c.loop-i.i c.loop-i.last h)) ∙ c.loop-i.invariant.1)

pub returns-then-n-eq0 : goal.returns-then-n-eq0
unfolding of_bits neg
returns-then-n-eq0 c = let d = after (goal.at.returns-then-n-eq0 c).After-loop-i in
    let t = c.args.self in c.clock_fits.ensures ∙ clocked t (omega arith) d _ (no-time t.frames t.count c.if-n-eq0.true)

pub returns : goal.returns
unfolding of_bits neg
returns c = let d = after (goal.at.returns c).After-loop-i in
    let t = c.args.self in let l : length t.frames ≡ 64 = frames-long t _ c.well_formed.0 in
    c.clock_fits-2.ensures ∙ clocked t (omega arith) d _ (last-time t.frames t.count (omega arith) c.if-n-eq0.false)
