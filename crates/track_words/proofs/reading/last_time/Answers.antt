-- `last_time` meets its contract. Assumes nothing.
use Prim.Native.Nat.{◌-◌}
use mathlib.Core.Path.{sym, ◌∙◌}
use native.Mathlib.Omega.{arith}
use lib.Ieee.{of_bits}
use Rattle.keyframe.proofs.Records.{last-time, no-time}
use Rattle.words.specs.Lent.{frame_at}
use Rattle.words.specs.Tracks.{frame_from}
use Rattle.track_words.specs.Reading.{frame_in, frames_of}
use Rattle.track_words.proofs.Placed.{frames-long, frame-at}
use Rattle.track_words.proofs.reading.last_time.Goals as goal

pub returns-then-n-eq0 : goal.returns-then-n-eq0
unfolding of_bits frame_in frame_from frame_at
returns-then-n-eq0 c = sym (no-time (frames_of c.args.w.now) c.args.n c.if-n-eq0.true)

pub returns : goal.returns
unfolding of_bits frame_in frame_from frame_at
returns c = let ws = c.args.w.now in let n = c.args.n in c.float_at.ensures ∙ sym (last-time (frames_of ws) n (omega (arith, frames-long ws)) c.if-n-eq0.false ∙ rw (frame-at ws (n - 1) (omega arith)))
