-- `value_by` meets its contract, branch by branch: a tween within its limits has a value. Assumes nothing.
use Rattle.std.specs.Prelude.{Ok}
use Rattle.std.proofs.Common.{sym, ap, ◌∙◌}
use lib.Ieee.{of_bits}
use Rattle.bezier.specs.Bezier.{plain_of}
use Rattle.tween.proofs.Branches.{at-end, never-refused, by-curve, straight}
use Rattle.tween.proofs.beside.value_by.Goals as goal

pub returns-then-t : goal.returns-then-t
unfolding of_bits
returns-then-t c = at-end _ c.requires.0 c.if-t.true ∙ sym (ap Ok c.plain.ensures)

pub returns-in-Linear : goal.returns-in-Linear
unfolding of_bits
returns-in-Linear c = let p = c.requires in straight _ p.0 _ p.1 _ c.ratio-p.ensures c.if-t.false c.in-Linear.is ∙ sym (ap Ok (c.plain-in-Linear.ensures ∙ ap plain_of c.blend_at.ensures))

pub returns-in-Ok : goal.returns-in-Ok
unfolding of_bits
returns-in-Ok c = let p = c.requires in by-curve _ p.0 _ p.1 _ c.ratio-p.ensures c.if-t.false _ (sym c.apply.ensures ∙ c.in-Ok.is) ∙ (rw (c.with_value.ensures, c.blend_at-in-Ok.ensures))

pub returns-in-Err : goal.returns-in-Err
unfolding of_bits
returns-in-Err c = let p = c.requires in absurd (never-refused _ p.0 _ p.1 _ c.ratio-p.ensures _ (sym c.apply.ensures ∙ c.in-Err.is))
