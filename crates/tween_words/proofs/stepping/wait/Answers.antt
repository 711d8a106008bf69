-- `wait` meets its contract, by what its tests say. Assumes nothing.
use native.Mathlib.Omega.{arith}
use mathlib.Core.Path.{refl, sym, ◌∙◌}
use Rattle.tween_words.proofs.Exact.{low, under}
use Rattle.tween_words.proofs.Fits.{parts}
use Rattle.tween_words.proofs.Moving.{waited-on}
use Rattle.tween_words.proofs.stepping.wait.Goals as goal

pub float_from_bits-waited : goal.float_from_bits-waited
float_from_bits-waited c = low _ (parts c.args.w.now c.requires.0).waited

pub float_from_bits-w : goal.float_from_bits-w
float_from_bits-w c = low _ (omega (arith, (parts c.args.w.now c.requires.0).delay))

pub float_to_bits-result : goal.float_to_bits-result
float_to_bits-result c = under _ _ c.if-sum-w.true

pub returns-then-sum-w : goal.returns-then-sum-w
returns-then-sum-w c = let m = c.max_zero-step.ensures in waited-on c.args.w.now c.args.secs c.requires.0 c.requires.2 _ c.requires.1 (rw m refl) (rw (← m) (sym c.is_lost.ensures ∙ c.if-is_lost.false)) c.if-sum-w.true
