-- `frames_in` meets its contract. The invariant: the first i places hold their frames. Assumes nothing.
use mathlib.Core.Path.{◌≡◌, refl, sym, ◌∙◌}
use native.Mathlib.Omega.{arith}
use borrow.Author.Rules.{rules}
use lib.ListN.{length-set}
use lib.Seq.{take_at}
use Rattle.math.specs.Lists.{firsts}
use Rattle.track_words.specs.Reading.{frame_in, frames_of}
use Rattle.track_words.proofs.Placed.{filled_none, filled-one, length-firsts, take-firsts}
use Rattle.track_words.proofs.filling.frames_in.Goals as goal

pub loop-i-init : goal.loop-i-init
unfolding frames_of
loop-i-init c = (search rules, refl, refl, filled_none _ _)

pub loop-i-preserved : goal.loop-i-preserved
unfolding frames_of
loop-i-preserved c = let ws = c.args.w.now in (omega arith, simp length-set c.loop-i.invariant.1, c.loop-i.invariant.2, rw (c.frame_in.ensures, c.loop-i.invariant.3) (filled-one (frame_in ws) _ c.loop-i.i (omega (arith, c.loop-i.invariant.2))))

pub returns : goal.returns
unfolding frames_of
returns c = let ws = c.args.w.now in let e : c.loop-i.i ≡ c.args.n = omega arith in
    rw (c.loop-i.invariant.3, e) (take_at (firsts (frame_in ws) c.args.n) _ c.args.n (length-firsts (frame_in ws) c.args.n) ∙ sym (take-firsts (frame_in ws) c.args.n 64 (omega arith)))
