-- `lax_tween_new` meets its contract, by what its callees ensure. Assumes nothing.
use Rattle.capi.specs.Tweens.{lax_tween_new}
use Rattle.capi.proofs.tweens.lax_tween_new.Goals as goal

pub returns : goal.returns
unfolding lax_tween_new
returns c = simp (c.tween_words-t.ensures, c.new.ensures, c.bits.ensures, c.bits-2.ensures, c.bits-3.ensures, c.bits-4.ensures, c.bits-5.ensures, c.bits-6.ensures, c.bits-7.ensures, c.bits-8.ensures, c.bits-9.ensures, c.bits-10.ensures, c.bits-11.ensures)
