-- `earlier` meets its contract. The invariant: i frames are passed, and those that follow them are counted from i on. Assumes nothing.
use mathlib.Core.Path.{◌≡◌}
use lib.Ieee.{lt}
use native.Mathlib.Omega.{arith}
use Rattle.frames.specs.declared.frame.Keyframe.{Keyframe}
use Rattle.frames.proofs.Walks.{lead-yes, lead-no, lead-end}
use Rattle.words.specs.Lent.{frame_at}
use Rattle.words.specs.Tracks.{frame_from}
use Rattle.track_words.specs.Reading.{frame_in, frames_of}
use Rattle.track_words.proofs.Placed.{frames-long, frame-at}
use Rattle.track_words.proofs.pushing.earlier.Goals as goal

pub loop-i-preserved : goal.loop-i-preserved
unfolding frame_in frame_from frame_at
loop-i-preserved c = let ws = c.args.w.now in let y = lead-yes (frames_of ws) c.args.n (omega (arith, frames-long ws)) (λ (k : Keyframe). lt k.time c.args.time) c.loop-i.i (omega arith) (rw (frame-at ws c.loop-i.i (omega arith), ← c.float_at.ensures) c.if-not-float_at-time.false) in
    (omega arith, omega (arith, c.loop-i.invariant.1))

pub returns-then-not-float_at-time : goal.returns-then-not-float_at-time
unfolding frame_in frame_from frame_at
returns-then-not-float_at-time c = let ws = c.args.w.now in let y = lead-no (frames_of ws) c.args.n (omega (arith, frames-long ws)) (λ (k : Keyframe). lt k.time c.args.time) c.loop-i.i (omega arith) (rw (frame-at ws c.loop-i.i (omega arith), ← c.float_at.ensures) c.if-not-float_at-time.true) in
    (omega arith, omega (arith, c.loop-i.invariant.1))

pub returns : goal.returns
unfolding frame_in frame_from frame_at
returns c = let ws = c.args.w.now in let e : c.loop-i.i ≡ c.args.n = omega arith in
    let y = rw e at c.loop-i.invariant.1 in
    (omega arith, omega (arith, lead-end (frames_of ws) c.args.n (omega (arith, frames-long ws)) (λ (k : Keyframe). lt k.time c.args.time)))
