-- `between` meets its contract, by what its callees ensure. Assumes nothing.
use Prim.Native.Nat.{◌+◌}
use native.Mathlib.Omega.{arith}
use Rattle.frames.specs.Sampling.{between_of}
use Rattle.words.specs.Lent.{frame_at}
use Rattle.words.specs.Tracks.{frame_from}
use Rattle.track_words.specs.Reading.{frame_in}
use Rattle.track_words.proofs.Stamped.{along-within, time-real, value-real}
use Rattle.track_words.proofs.sampling.between.Goals as goal

pub number_at-requires : goal.number_at-requires
unfolding between_of frame_in frame_from frame_at
number_at-requires c = (omega arith, time-real c.args.w.now c.args.low c.requires.2)

pub number_at-requires-2 : goal.number_at-requires-2
unfolding between_of frame_in frame_from frame_at
number_at-requires-2 c = (omega arith, time-real c.args.w.now (c.args.low + 1) c.requires.3)

pub eased-found-requires : goal.eased-found-requires
unfolding between_of frame_in frame_from frame_at
eased-found-requires c = (omega arith, rw (c.along-p.ensures, c.number_at-2.ensures, c.number_at.ensures) (along-within c.args.w.now c.args.low (c.args.low + 1) c.requires.2 c.requires.3 c.args.t c.requires.1))

pub number_at-requires-3 : goal.number_at-requires-3
unfolding between_of frame_in frame_from frame_at
number_at-requires-3 c = (omega arith, value-real c.args.w.now c.args.low c.requires.2)

pub number_at-requires-4 : goal.number_at-requires-4
unfolding between_of frame_in frame_from frame_at
number_at-requires-4 c = (omega arith, value-real c.args.w.now (c.args.low + 1) c.requires.3)

pub returns : goal.returns
unfolding between_of frame_in frame_from frame_at
returns c = rw (c.with_value.ensures, c.blend.ensures, c.number_at-4.ensures, c.number_at-3.ensures, c.eased-found.ensures, c.along-p.ensures, c.number_at-2.ensures, c.number_at.ensures)
