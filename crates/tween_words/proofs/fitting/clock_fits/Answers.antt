-- `clock_fits` meets its contract, by what its callees ensure. Assumes nothing.
use borrow.Author.Tests.{le-leb, lt-leb}
use Rattle.tween_words.specs.Fitting.{clock_fit}
use Rattle.tween_words.proofs.fitting.clock_fits.Goals as goal

pub returns-then-w-gt4 : goal.returns-then-w-gt4
unfolding clock_fit
returns-then-w-gt4 c = simp (lt-leb _ _ c.if-w-gt4.true)

pub returns-then-w-gt65535 : goal.returns-then-w-gt65535
unfolding clock_fit
returns-then-w-gt65535 c = simp (le-leb _ _ c.if-w-gt4.false, lt-leb _ _ c.if-w-gt65535.true)

pub returns-then-w : goal.returns-then-w
unfolding clock_fit
returns-then-w c = simp (le-leb _ _ c.if-w-gt4.false, le-leb _ _ c.if-w-gt65535.false, lt-leb _ _ c.if-w.true)

pub returns-then-w-gt1275068416 : goal.returns-then-w-gt1275068416
unfolding clock_fit
returns-then-w-gt1275068416 c = simp (le-leb _ _ c.if-w-gt4.false, le-leb _ _ c.if-w-gt65535.false, le-leb _ _ c.if-w.false, lt-leb _ _ c.if-w-gt1275068416.true)

pub returns-then-w-gt16777216 : goal.returns-then-w-gt16777216
unfolding clock_fit
returns-then-w-gt16777216 c = simp (le-leb _ _ c.if-w-gt4.false, le-leb _ _ c.if-w-gt65535.false, le-leb _ _ c.if-w.false, le-leb _ _ c.if-w-gt1275068416.false, lt-leb _ _ c.if-w-gt16777216.true)

pub returns-then-w-gt1 : goal.returns-then-w-gt1
unfolding clock_fit
returns-then-w-gt1 c = simp (le-leb _ _ c.if-w-gt4.false, le-leb _ _ c.if-w-gt65535.false, le-leb _ _ c.if-w.false, le-leb _ _ c.if-w-gt1275068416.false, le-leb _ _ c.if-w-gt16777216.false, lt-leb _ _ c.if-w-gt1.true)

pub returns-then-w-gt3 : goal.returns-then-w-gt3
unfolding clock_fit
returns-then-w-gt3 c = simp (le-leb _ _ c.if-w-gt4.false, le-leb _ _ c.if-w-gt65535.false, le-leb _ _ c.if-w.false, le-leb _ _ c.if-w-gt1275068416.false, le-leb _ _ c.if-w-gt16777216.false, le-leb _ _ c.if-w-gt1.false, lt-leb _ _ c.if-w-gt3.true)

pub returns : goal.returns
unfolding clock_fit
returns c = simp (le-leb _ _ c.if-w-gt4.false, le-leb _ _ c.if-w-gt65535.false, le-leb _ _ c.if-w.false, le-leb _ _ c.if-w-gt1275068416.false, le-leb _ _ c.if-w-gt16777216.false, le-leb _ _ c.if-w-gt1.false, le-leb _ _ c.if-w-gt3.false)
