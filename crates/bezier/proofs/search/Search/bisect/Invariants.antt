-- `bisect` meets its contract. The loop's invariant: the definition from the span at hand, behind the bisections made, finds what it finds from the start. Assumes nothing.
use Prim.Native.Nat.{◌≤◌, ◌-◌}
use mathlib.Core.Path.{◌≡◌}
use Rattle.bezier.specs.Search.{after, near_of, bisect_of, bisect_from}
use Rattle.bezier.proofs.search.Search.bisect.Given as goal

abbrev pub invariant-loop-k : goal.invariant-loop-k
invariant-loop-k l = (l.k ≤ 10) × (after l.k 0 (bisect_of l.self.x1 l.self.x2 l.self.t (10 - l.k) (near_of l.self.x1 l.self.x2 l.self.t l.s.u) l.s) ≡ bisect_from l.self.x1 l.self.x2 l.self.t l.from)
