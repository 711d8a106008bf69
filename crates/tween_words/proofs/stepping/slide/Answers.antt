-- `slide` meets its contract, by what its tests say. Assumes nothing.
use Rattle.math.proofs.Choice.{passes}
use Rattle.tween_words.proofs.Moving.{paused, completed}
use mathlib.Core.Path.{ap}
use mathlib.Core.Bool.{not}
use Rattle.tween_words.proofs.stepping.slide.Goals as goal

pub wait-requires : goal.wait-requires
wait-requires c = (passes _ _ c.fits.ensures (ap not c.if-not-fits.false), c.in-0.is, c.if-secs.false)

pub run-requires : goal.run-requires
run-requires c = (passes _ _ c.fits.ensures (ap not c.if-not-fits.false), c.in-1.is, c.if-secs.false)

pub returns-in-2 : goal.returns-in-2
returns-in-2 c = paused c.args.w.now c.args.secs (passes _ _ c.fits.ensures (ap not c.if-not-fits.false)) c.if-secs.false c.in-2.is

pub returns-in-3 : goal.returns-in-3
returns-in-3 c = completed c.args.w.now c.args.secs (passes _ _ c.fits.ensures (ap not c.if-not-fits.false)) c.if-secs.false c.in-3.is
