-- What a settled search has shown: at the u that it answers, the curve's x is less than 1e-6 from t. It says nothing of how near the y is. Assumes nothing.
use Prim.Native.Nat.{ℕ, zero, suc}
use mathlib.Core.Path.{◌≡◌, refl, sym, ap, ◌∙◌}
use mathlib.Core.Bool.{Bool, true, false, cond, false≢true}
use lib.Ieee.{Float, lt}
use Rattle.math.specs.Rounded.{◌⊖◌, ◌⊘◌}
use Rattle.math.specs.Range.{clamp01_of, size_of}
use Rattle.bezier.specs.Curve.{sample_cubic_of, sample_cubic_derivative_of}
use Rattle.bezier.specs.Search.{tiny_f, cut_of, miss_of, near_of, turn_of, bisect_of, bisection_of, newton_of}
use Rattle.bezier.specs.Bezier.{solution_of}
use Rattle.bezier.specs.Promises.{SettledNear}
use Rattle.bezier.specs.declared.types.Turn.{Turn}
use Rattle.bezier.specs.declared.types.Turn.TheVariants.{Near, Flat, Next}
use Rattle.bezier.specs.declared.types.Span.{Span}
use Rattle.bezier.specs.declared.types.Solved.{Solved}

abbrev is_near : Turn → Bool
is_near Near = true
is_near Flat = false
is_near (Next v) = false

module _ (x1 x2 t : Float) where
  abbrev Shown : Solved → Type 0
  Shown f = f.settled ≡ true → near_of x1 x2 t f.u ≡ true

  bisect-shown : (n : ℕ) (near : Bool) (s : Span) → near ≡ near_of x1 x2 t s.u → Shown (bisect_of x1 x2 t n near s)
  unfolding bisect_of
  bisect-shown zero near s e h = absurd (false≢true h)
  bisect-shown (suc n) true s e h = sym e
  bisect-shown (suc n) false s e h =
      let r = cut_of s (sample_cubic_of x1 x2 s.u) t in
      bisect-shown n (near_of x1 x2 t r.u) r refl h

  bisection-shown : Shown (bisection_of x1 x2 t)
  bisection-shown = bisect-shown 10 _ _ refl

  turn-shown : (u : Float) → is_near (turn_of x1 x2 t u) ≡ near_of x1 x2 t u
  unfolding turn_of
  turn-shown u = go (near_of x1 x2 t u) (lt (size_of d) tiny_f)
    where
      d : Float
      d = sample_cubic_derivative_of x1 x2 u

      go : (a b : Bool) → is_near (cond a Near (cond b Flat (Next (clamp01_of (u ⊖ miss_of x1 x2 t u ⊘ d))))) ≡ a
      go true b = refl
      go false true = refl
      go false false = refl

  newton-shown : (n : ℕ) (turn : Turn) (u : Float) → turn ≡ turn_of x1 x2 t u → Shown (newton_of x1 x2 t n turn u)
  unfolding newton_of
  newton-shown zero turn u e = bisection-shown
  newton-shown (suc n) Near u e = λ _. sym (turn-shown u) ∙ sym (ap is_near e)
  newton-shown (suc n) Flat u e = bisection-shown
  newton-shown (suc n) (Next v) u e = newton-shown n (turn_of x1 x2 t v) v refl

pub settled-near : SettledNear
unfolding solution_of
settled-near t x1 x2 e = rw e (newton-shown (clamp01_of x1) (clamp01_of x2) t 6 _ t refl)
