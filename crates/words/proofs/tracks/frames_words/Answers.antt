-- `frames_words` meets its contract. The invariant: the first i places hold their frames. Assumes nothing.
use mathlib.Core.Path.{◌≡◌, refl, ◌∙◌}
use native.Mathlib.Omega.{arith}
use borrow.Author.Rules.{rules}
use lib.ListN.{length, length-set}
use Rattle.frames.proofs.Fills.{fill_to, fill_more}
use Rattle.words.specs.Tracks.{frame_words, frames_words}
use Rattle.words.proofs.tracks.frames_words.Goals as goal

pub loop-i-init : goal.loop-i-init
unfolding frames_words fill_to
loop-i-init c = (search rules, c.well_formed.0.1.0.1, refl)

pub loop-i-preserved : goal.loop-i-preserved
unfolding frames_words fill_to
loop-i-preserved c = let t = c.args.frames in let l : length t ≡ 64 = c.well_formed.1.0.1.0.1 in
    let k : length c.args.came ≡ 64 = c.well_formed.0.1.0.1 in
    (omega arith, simp length-set c.loop-i.invariant.1, rw (c.from.ensures, c.loop-i.invariant.2) (fill_more frame_words _ t _ (omega arith) c.loop-i.i (omega arith)))

pub returns : goal.returns
unfolding frames_words fill_to
returns c = let e : c.loop-i.i ≡ c.places-n.result = omega arith in
    c.loop-i.invariant.2 ∙ (rw (e, c.places-n.ensures.1) refl)
