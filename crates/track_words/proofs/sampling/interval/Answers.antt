-- `interval` meets its contract. The invariant: what is counted and what is left to count make the whole count. Assumes nothing.
use Prim.Native.Nat.{◌-◌}
use native.Mathlib.Omega.{arith}
use borrow.Author.Rules.{rules}
use denote.Floats.{passes}
use lib.Ieee.{Float, le}
use Rattle.math.proofs.Patterns.{number}
use Rattle.math.proofs.Tallies.{byte-below}
use Rattle.frames.specs.Inner.{times_of}
use Rattle.frames.proofs.Counts.{count_next, count_past, not-nan}
use Rattle.frames.proofs.Rising.{time-number}
use Rattle.track_words.specs.Reading.{frames_of}
use Rattle.track_words.proofs.Placed.{time-at}
use Rattle.track_words.proofs.Stamped.{before-test}
use Rattle.track_words.proofs.sampling.interval.Goals as goal

pub float_to_bits-top : goal.float_to_bits-top
float_to_bits-top c = number c.args.t (time-number c.args.t c.requires.3)

pub loop-i-preserved : goal.loop-i-preserved
loop-i-preserved c = let ws = c.args.w.now in let test = before-test ws c.args.n c.requires.2 c.requires.0 c.loop-i.i (omega arith) (omega arith) c.args.t (passes _ c.well_formed.1.1.0.1) c.requires.3 in
    let step = rw (time-at ws c.loop-i.i (omega arith), test, ← c.word_at.ensures) at (count_next (λ (x : Float). le x c.args.t) (times_of (frames_of ws)) (c.args.n - 1) c.loop-i.i c.loop-i-test.true (λ _. not-nan c.args.t)) in
    (search (rules, byte-below), omega arith, omega (arith, c.loop-i.invariant.2, step))

pub returns : goal.returns
returns c = (omega arith, omega (arith, c.loop-i.invariant.2, count_past (λ (x : Float). le x c.args.t) (times_of (frames_of c.args.w.now)) (c.args.n - 1) c.loop-i.i c.loop-i-test.false))
