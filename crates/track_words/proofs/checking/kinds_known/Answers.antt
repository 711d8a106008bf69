-- `kinds_known` meets its contract. The invariant: the kinds from place i on decide. Assumes nothing.
use mathlib.Core.Path.{◌≡◌, sym, ◌∙◌}
use native.Mathlib.Omega.{arith}
use Rattle.track_words.proofs.Sound.{kinds-step, kinds-end}
use Rattle.track_words.proofs.checking.kinds_known.Goals as goal

pub loop-i-preserved : goal.loop-i-preserved
loop-i-preserved c = let step = kinds-step c.args.w.now c.args.n c.requires c.loop-i.i (omega arith) in
    (omega arith, sym (rw (← c.word_at.ensures, ← c.is_kind.ensures, c.if-not-is_kind.false) at step) ∙ c.loop-i.invariant.1)

pub returns-then-not-is_kind : goal.returns-then-not-is_kind
returns-then-not-is_kind c = let step = kinds-step c.args.w.now c.args.n c.requires c.loop-i.i (omega arith) in
    sym (rw (← c.word_at.ensures, ← c.is_kind.ensures, c.if-not-is_kind.true) at step) ∙ c.loop-i.invariant.1

pub returns : goal.returns
returns c = let e : c.loop-i.i ≡ c.args.n = omega arith in
    sym (kinds-end c.args.w.now c.args.n c.requires) ∙ rw e at c.loop-i.invariant.1
