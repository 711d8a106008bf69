-- `frames_at` meets its contract. The invariant: the first i places hold their frames. Assumes nothing.
use Prim.Native.Nat.{◌+◌, ◌*◌}
use mathlib.Core.Path.{◌≡◌, refl, ◌∙◌}
use mathlib.Core.List.{[]}
use native.Mathlib.Omega.{arith}
use lib.ListN.{replicate, length-set}
use Rattle.words.specs.Lent.{frame_at}
use Rattle.rows.specs.Records.{frames_at}
use Rattle.rows.proofs.Filled.{fill_none, fill_one}
use Rattle.rows.proofs.given.frames_at.Goals as goal

no_words : frame_at (replicate 1024 0) 0 ≡ frame_at [] 0
unfolding frame_at
no_words = refl

pub loop-i-init : goal.loop-i-init
unfolding frames_at
loop-i-init c = (refl, fill_none _ _)

pub loop-i-preserved : goal.loop-i-preserved
unfolding frames_at
loop-i-preserved c = (simp length-set c.loop-i.invariant.0, rw (c.frame_at.ensures, c.loop-i.invariant.1) (fill_one (λ k. frame_at c.args.words (c.args.from + 8 * k)) _ c.loop-i.i (omega arith)))

pub returns : goal.returns
unfolding frames_at
returns c = let e : c.loop-i.i ≡ c.args.count = omega arith in
    c.loop-i.invariant.1 ∙ (rw (e, c.frame_at-frames.ensures, no_words) refl)
