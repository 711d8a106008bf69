-- `frames_fit` meets its contract. The invariant: the frames from i on, after the time whose pattern is 1 below `above`, are sound where all are. Assumes nothing.
use Prim.Native.Nat.{◌%◌, ◌≤◌}
use mathlib.Core.Path.{◌≡◌, sym, ◌∙◌}
use mathlib.Core.Bool.{◌&&◌}
use native.Mathlib.Omega.{arith}
use borrow.Author.Tests.{leb-true, not-true, not-false}
use lib.Dec.{leb}
use Rattle.math.proofs.Choice.{and_both}
use Rattle.track_words.proofs.Sound.{sound-step, sound-end}
use mathlib.Core.Path.{ap}
use mathlib.Core.Bool.{not}
use Rattle.track_words.proofs.checking.frames_fit.Goals as goal
use Rattle.track_words.proofs.checking.frames_fit.Goals.{Then-above-time}

-- the time that passed its test
passed : (c : Then-above-time) → c.word_at-time.result ≤ 0x4b80_0000
passed c =
    let t = c.word_at-time.result in let a = leb c.loop-i.above t in
    leb-true t 0x4b80_0000 (and_both a (leb t 0x4b80_0000) (and_both (a && leb t 0x4b80_0000) (leb (c.word_at-value.result % 0x8000_0000) 0x4b80_0000) c.if-above-time.true).0).1

pub returns-then-not-easing_fits : goal.returns-then-not-easing_fits
returns-then-not-easing_fits c = let step = sound-step c.args.w.now c.args.n c.requires c.loop-i.i c.loop-i.above (omega arith) c.loop-i.invariant.1 in
    sym (rw (← c.word_at-time.ensures, ← c.word_at-value.ensures, c.if-above-time.true, ← c.easing_fits.ensures, not-true c.easing_fits.result (ap not c.if-not-easing_fits.true)) at step) ∙ c.loop-i.invariant.2

pub loop-i-preserved : goal.loop-i-preserved
loop-i-preserved c = let h = passed (goal.at.loop-i-preserved c).Then-above-time in
    let step = sound-step c.args.w.now c.args.n c.requires c.loop-i.i c.loop-i.above (omega arith) c.loop-i.invariant.1 in
    (omega arith, omega arith, sym (rw (← c.word_at-time.ensures, ← c.word_at-value.ensures, c.if-above-time.true, ← c.easing_fits.ensures, not-false c.easing_fits.result (ap not c.if-not-easing_fits.false)) at step) ∙ c.loop-i.invariant.2)

pub returns-else-above-time : goal.returns-else-above-time
returns-else-above-time c = let step = sound-step c.args.w.now c.args.n c.requires c.loop-i.i c.loop-i.above (omega arith) c.loop-i.invariant.1 in
    sym (rw (← c.word_at-time.ensures, ← c.word_at-value.ensures, c.if-above-time.false) at step) ∙ c.loop-i.invariant.2

pub returns : goal.returns
returns c = let e : c.loop-i.i ≡ c.args.n = omega arith in
    sym (sound-end c.args.w.now c.args.n c.requires c.loop-i.above) ∙ rw e at c.loop-i.invariant.2
