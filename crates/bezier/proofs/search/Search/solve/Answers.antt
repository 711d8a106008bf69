-- `solve` meets its contract. The loop's invariant: the definition from the u at hand, behind the steps made, finds what it finds from t. Assumes nothing.
use mathlib.Core.Path.{◌≡◌, refl, sym, ap, ◌∙◌}
use mathlib.Core.Bool.{true}
use native.Mathlib.Omega.{arith}
use borrow.Author.Rules.{rules}
use Rattle.bezier.specs.Search.{solved_at, after}
use Rattle.bezier.proofs.Steps.{counts, after_both, newton-near, newton-flat, newton-next, newton-spent}
use Rattle.bezier.proofs.search.Search.solve.Goals as goal

pub returns-in-Near : goal.returns-in-Near
returns-in-Near c = counts (after c.loop-made.made _ (after 1 0 (solved_at true c.loop-made.u))) _ _
    (ap (after c.loop-made.made _) (sym (newton-near _ _ _ 6 _ _ (omega arith) (sym c.newton_turn.ensures ∙ c.in-Near.is)))
    ∙ c.loop-made.invariant.1)
    (omega arith)
    (omega arith)

pub loop-made-preserved : goal.loop-made-preserved
loop-made-preserved c = (
  search rules,
  after_both _ _ 1 1 _
      ∙ ap (after c.loop-made.made _) (sym (newton-next _ _ _ 6 _ _ _ (omega arith) (sym c.newton_turn.ensures ∙ c.in-Next.is)))
      ∙ c.loop-made.invariant.1,
)

pub returns-in-Flat : goal.returns-in-Flat
returns-in-Flat c = c.bisect.ensures
    ∙ newton-flat _ _ _ 6 _ _ _ refl c.loop-made-test.true (sym c.newton_turn.ensures ∙ c.in-Flat.is)
    ∙ c.loop-made.invariant.1

-- after the last step the bisections are still to come
pub returns : goal.returns
returns c = let last : 6 ≡ c.loop-made.made = omega arith in
    c.bisect-2.ensures ∙ newton-spent _ _ _ 6 _ _ _ _ last (omega arith) ∙ c.loop-made.invariant.1
