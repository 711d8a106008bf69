-- How large an answer can be, for a t from 0 to 1, finite x1 and x2, and y1 and y2 at most p in size. Assumes nothing.
use Prim.Native.Nat.{ℕ, ◌+◌, ◌*◌, ◌≤◌}
use mathlib.Core.Bool.{Bool, true, false, cond}
use native.Mathlib.Omega.{arith}
use lib.Dec.{T}
use lib.Ieee.{Float}
use Rattle.math.specs.Range.{is_finite, Within, AtMost}
use Rattle.math.proofs.Sizes.{at-most-more}
use Rattle.math.proofs.Ranges.{within-at-most}
use Rattle.bezier.specs.Curve.{sample_cubic_of}
use Rattle.bezier.specs.Bezier.{at_end, solution_of, cubic_bezier}
use Rattle.bezier.proofs.Bounds.{sample-at-most}
use Rattle.bezier.proofs.Inside.{found_within}

pub answer-at-most : (p : ℕ) → 3 + 57 * p ≤ 16777216 → (t x1 y1 x2 y2 : Float) → Within t → T (is_finite x1) → T (is_finite x2) → AtMost p y1 → AtMost p y2 → AtMost (1 + 24 * p) (cubic_bezier t x1 y1 x2 y2)
unfolding cubic_bezier
answer-at-most p room t x1 y1 x2 y2 w f1 f2 h1 h2 = go (at_end t)
  where
    u : Float
    u = (solution_of t x1 x2).u

    go : (b : Bool) → AtMost (1 + 24 * p) (cond b t (sample_cubic_of y1 y2 u))
    go true = at-most-more 1 (1 + 24 * p) t (omega arith) (within-at-most t w)
    go false = sample-at-most p room y1 y2 u h1 h2 (within-at-most u (found_within t x1 x2 w f1 f2))
