-- `newton_turn` meets its contract: each way out is the definition at what the tests and the callees said. Assumes nothing.
use mathlib.Core.Path.{◌≡◌, sym, ◌∙◌}
use mathlib.Core.Bool.{false}
use Rattle.bezier.specs.Search.{near_of}
use Rattle.bezier.proofs.Steps.{turn_near, turn-flat, turn-next}
use Rattle.bezier.proofs.search.Search.newton_turn.Goals as goal
use Rattle.bezier.proofs.search.Search.newton_turn.Goals.{After-is_below-2}

pub returns-then-is_below : goal.returns-then-is_below
returns-then-is_below c = turn_near _ _ _ _ (rw (← c.sample_cubic.ensures) (sym c.is_below.ensures ∙ c.if-is_below.true))

-- past the first test, with the derivative and its test
far : (c : After-is_below-2) → near_of c.args.self.x1 c.args.self.x2 c.args.self.t c.args.u ≡ false
far c = rw (← c.sample_cubic.ensures) (sym c.is_below.ensures ∙ c.if-is_below.false)

pub returns-then-is_below-2 : goal.returns-then-is_below-2
returns-then-is_below-2 c = turn-flat _ _ _ _ (far (goal.at.returns-then-is_below-2 c).After-is_below-2) (rw (← c.sample_cubic_derivative-derivative.ensures) (sym c.is_below-2.ensures ∙ c.if-is_below-2.true))

pub returns : goal.returns
returns c = turn-next _ _ _ _ _ (far (goal.at.returns c).After-is_below-2) (rw (← c.sample_cubic_derivative-derivative.ensures) (sym c.is_below-2.ensures ∙ c.if-is_below-2.false))
    (rw (← c.sample_cubic.ensures, ← c.sample_cubic_derivative-derivative.ensures) c.clamp01.ensures)
