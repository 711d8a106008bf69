-- `put_row` meets its contract. The invariant: j words of the row are in their places. Assumes nothing.
use mathlib.Core.Path.{refl}
use native.Mathlib.Numerals.{add-one}
use native.Mathlib.Omega.{arith}
use Rattle.track_words.specs.Inner.{row_into}
use Rattle.track_words.proofs.pushing.put_row.Goals as goal

pub loop-j-init : goal.loop-j-init
unfolding row_into
loop-j-init c = (omega arith, refl)

pub loop-j-preserved : goal.loop-j-preserved
unfolding row_into
loop-j-preserved c = (omega arith, rw (add-one c.loop-j.j, ← c.loop-j.invariant.1) refl)
