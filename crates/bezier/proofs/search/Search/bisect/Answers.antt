-- `bisect` meets its contract. The loop's invariant: the definition from the span at hand, behind the bisections made, finds what it finds from the start. Assumes nothing.
use mathlib.Core.Path.{sym, ap, ◌∙◌}
use mathlib.Core.Bool.{true, false}
use native.Mathlib.Omega.{arith}
use borrow.Author.Rules.{rules}
use Rattle.bezier.specs.Search.{solved_at, after}
use Rattle.bezier.proofs.Steps.{counts, after_both, bisect-near, bisect-next, bisect-spent}
use Rattle.bezier.proofs.search.Search.bisect.Goals as goal

pub returns-then-is_below : goal.returns-then-is_below
returns-then-is_below c = counts (after c.args.steps c.args.steps (after c.loop-k.k 0 (after 1 0 (solved_at true c.loop-k.s.u)))) _ _
    (ap (after c.args.steps _)
    (ap (after c.loop-k.k 0) (sym (bisect-near _ _ _ 10 _ _ (omega arith) (rw (← c.sample_cubic-x.ensures) (sym c.is_below.ensures ∙ c.if-is_below.true))))
    ∙ c.loop-k.invariant.1))
    (omega arith)
    (omega arith)

pub loop-k-preserved : goal.loop-k-preserved
loop-k-preserved c = (
  search rules,
  after_both _ 0 1 0 _
      ∙ ap (after c.loop-k.k 0) (sym (bisect-next _ _ _ 10 _ _ _ (omega arith) (rw (← c.sample_cubic-x.ensures) (sym c.is_below.ensures ∙ c.if-is_below.false)) (rw (← c.sample_cubic-x.ensures) c.cut-s.ensures)))
      ∙ c.loop-k.invariant.1,
)

pub returns : goal.returns
returns c = counts (after c.args.steps c.args.steps (after c.loop-k.k 0 (solved_at false c.loop-k.s.u))) _ _
    (ap (after c.args.steps _) (ap (after c.loop-k.k 0) (sym (bisect-spent _ _ _ 10 _ _ _ (omega arith))) ∙ c.loop-k.invariant.1))
    (omega arith)
    (omega arith)
