-- `sample` meets its contract: what is picked beside the time's interval is the sample. Assumes nothing.
use Prim.Native.Nat.{◌+◌, ◌-◌, ◌<◌}
use mathlib.Core.Path.{refl}
use native.Mathlib.Omega.{arith}
use Rattle.frames.specs.Inner.{counted, times_of}
use Rattle.frames.proofs.Picks.{picked-by}
use Rattle.words.specs.Lent.{frame_at}
use Rattle.words.specs.Tracks.{frame_from}
use Rattle.track_words.specs.Reading.{frame_in, frames_of}
use Rattle.track_words.proofs.Placed.{frames-long, frame-at, times-front}
use Rattle.track_words.proofs.Stamped.{frame-in, inside, sampled, time-real, value-real}
use Rattle.track_words.proofs.sampling.sample.Goals as goal

pub number_at-last-requires : goal.number_at-last-requires
unfolding frame_in frame_from frame_at
number_at-last-requires c = (omega arith, time-real c.args.w.now (c.args.n - 1) (frame-in c.args.w.now c.args.n c.requires.2 c.requires.0 (c.args.n - 1) (omega arith)))

pub number_at-requires : goal.number_at-requires
unfolding frame_in frame_from frame_at
number_at-requires c = (omega arith, time-real c.args.w.now 0 (frame-in c.args.w.now c.args.n c.requires.2 c.requires.0 0 (omega arith)))

pub number_at-requires-then-t-number_at : goal.number_at-requires-then-t-number_at
unfolding frame_in frame_from frame_at
number_at-requires-then-t-number_at c = (omega arith, value-real c.args.w.now 0 (frame-in c.args.w.now c.args.n c.requires.2 c.requires.0 0 (omega arith)))

pub returns-then-t-number_at : goal.returns-then-t-number_at
unfolding frame_in frame_from frame_at
returns-then-t-number_at c = let ws = c.args.w.now in let n = c.args.n in picked-by (frames_of ws) n c.requires.1 (omega (arith, frames-long ws)) c.requires.0 _ _ _ _ (times_of (frames_of ws)) (counted (times_of (frames_of ws)) c.cut-t.result (n - 1)) c.max_zero.ensures (rw (frame-at ws (n - 1) (omega arith), ← c.number_at-last.ensures) c.cut-t.ensures) (times-front ws n) refl
    (rw (frame-at ws 0 (omega arith), ← c.number_at.ensures, c.if-t-number_at.true, ← c.number_at-then-t-number_at.ensures) c.plain.ensures)

pub number_at-requires-then-last-t : goal.number_at-requires-then-last-t
unfolding frame_in frame_from frame_at
number_at-requires-then-last-t c = (omega arith, value-real c.args.w.now (c.args.n - 1) (frame-in c.args.w.now c.args.n c.requires.2 c.requires.0 (c.args.n - 1) (omega arith)))

pub returns-then-last-t : goal.returns-then-last-t
unfolding frame_in frame_from frame_at
returns-then-last-t c = let ws = c.args.w.now in let n = c.args.n in picked-by (frames_of ws) n c.requires.1 (omega (arith, frames-long ws)) c.requires.0 _ _ _ _ (times_of (frames_of ws)) (counted (times_of (frames_of ws)) c.cut-t.result (n - 1)) c.max_zero.ensures (rw (frame-at ws (n - 1) (omega arith), ← c.number_at-last.ensures) c.cut-t.ensures) (times-front ws n) refl
    (rw (frame-at ws 0 (omega arith), ← c.number_at.ensures, c.if-t-number_at.false, frame-at ws (n - 1) (omega arith), ← c.number_at-last.ensures, c.if-last-t.true, ← c.number_at-then-last-t.ensures) c.plain-then-last-t.ensures)

pub interval-low-requires : goal.interval-low-requires
unfolding frame_in frame_from frame_at
interval-low-requires c = (c.requires.0, c.requires.1, c.requires.2, sampled c.args.w.now c.args.n c.requires.2 c.requires.0 c.requires.1 _ _ _ _ c.max_zero.ensures c.number_at-last.ensures c.cut-t.ensures)

pub between-requires : goal.between-requires
unfolding frame_in frame_from frame_at
between-requires c = let ws = c.args.w.now in let n = c.args.n in let low = c.interval-low.result in let time = sampled ws n c.requires.2 c.requires.0 c.requires.1 _ _ _ _ c.max_zero.ensures c.number_at-last.ensures c.cut-t.ensures in
    let last = inside ws n c.requires.2 c.requires.0 c.requires.1 c.cut-t.result time (rw (← c.number_at.ensures) c.if-t-number_at.false) (rw (← c.number_at-last.ensures) c.if-last-t.false) in
    let m : low + 1 < n = omega (arith, last, c.interval-low.ensures.1) in
    (c.interval-low.ensures.0, time, frame-in ws n c.requires.2 c.requires.0 low (omega (arith, m)), frame-in ws n c.requires.2 c.requires.0 (low + 1) m)

pub returns : goal.returns
unfolding frame_in frame_from frame_at
returns c = let ws = c.args.w.now in let n = c.args.n in let low = c.interval-low.result in picked-by (frames_of ws) n c.requires.1 (omega (arith, frames-long ws)) c.requires.0 _ _ _ _ (times_of (frames_of ws)) low c.max_zero.ensures (rw (frame-at ws (n - 1) (omega arith), ← c.number_at-last.ensures) c.cut-t.ensures) (times-front ws n) c.interval-low.ensures.1
    (rw (frame-at ws 0 (omega arith), ← c.number_at.ensures, c.if-t-number_at.false, frame-at ws (n - 1) (omega arith), ← c.number_at-last.ensures, c.if-last-t.false, frame-at ws low (omega (arith, c.interval-low.ensures.0)), frame-at ws (low + 1) (omega (arith, c.interval-low.ensures.0))) c.between.ensures)
