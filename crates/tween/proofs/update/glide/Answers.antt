-- `glide` meets its contract: the rest of an update of a running tween is what `slide` takes over. Assumes nothing.
use Rattle.std.proofs.Common.{rules}
use lib.Ieee.{of_bits}
use Rattle.tween.specs.Update.{by_state, update_of}
use Rattle.tween.proofs.Bounds.{within_count}
use Rattle.tween.proofs.Glides.{glides}
use Rattle.tween.proofs.update.glide.Goals as goal

pub returns-in_default : goal.returns-in_default
unfolding update_of by_state of_bits
returns-in_default c = search rules

pub returns-then-step : goal.returns-then-step
unfolding update_of by_state of_bits
returns-then-step c = search rules

pub returns-in_default-run : goal.returns-in_default-run
unfolding update_of by_state of_bits
returns-in_default-run c = search rules

pub slide-requires : goal.slide-requires
unfolding update_of by_state of_bits
slide-requires c = within_count _ c.requires

pub returns : goal.returns
unfolding update_of by_state of_bits
returns c = glides c.args.t c.args.step _ _ c.slide.result
    c.in-Running.is
    (simp (c.requires, c.if-step.false, c.in-Running.is, ← c.max_zero.ensures, ← c.run.ensures, c.in-Runs.is))
    c.slide.ensures
