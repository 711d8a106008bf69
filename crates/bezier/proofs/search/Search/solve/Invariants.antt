-- `solve` meets its contract. The loop's invariant: the definition from the u at hand, behind the steps made, finds what it finds from t. Assumes nothing.
use Prim.Native.Nat.{◌≤◌, ◌-◌}
use mathlib.Core.Path.{◌≡◌}
use Rattle.bezier.specs.Search.{after, turn_of, newton_of, solve_of}
use Rattle.bezier.proofs.search.Search.solve.Given as goal

abbrev pub invariant-loop-made : goal.invariant-loop-made
invariant-loop-made l = (l.made ≤ 6) × (after l.made l.made (newton_of l.self.x1 l.self.x2 l.self.t (6 - l.made) (turn_of l.self.x1 l.self.x2 l.self.t l.u) l.u) ≡ solve_of l.self.x1 l.self.x2 l.self.t)
