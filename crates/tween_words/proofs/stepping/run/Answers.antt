-- `run` meets its contract, by what its tests say. Assumes nothing.
use native.Mathlib.Omega.{arith}
use mathlib.Core.Path.{◌≡◌, refl, sym, ap, ◌∙◌}
use mathlib.Core.Bool.{false}
use mathlib.Core.List.{List}
use Prim.Native.Nat.{ℕ}
use lib.Ieee.{Float}
use Rattle.math.specs.Rounded.{◌⊕◌, ◌⊗◌}
use Rattle.math.specs.Range.{max_zero_of}
use Rattle.math.specs.Lost.{lost_by}
use Rattle.words.specs.Lent.{float_at}
use Rattle.tween_words.proofs.Exact.{low, under, not-over}
use Rattle.tween_words.proofs.Fits.{parts}
use Rattle.tween_words.proofs.Moving.{slid, folded-once, ended}
use Rattle.tween_words.proofs.stepping.run.Goals as goal
use Rattle.tween_words.proofs.stepping.run.Goals.{After-is_lost}

-- what is known once the sum was looked at
module _ (c : After-is_lost) where
  abbrev ws : List ℕ
  ws = c.args.w.now

  abbrev x : Float
  x = c.args.secs

  abbrev e : Float
  e = float_at ws 13 ⊕ c.max_zero.result ⊗ float_at ws 10

  sum : e ≡ float_at ws 13 ⊕ max_zero_of x ⊗ float_at ws 10
  sum = ap (λ (z : Float). float_at ws 13 ⊕ z ⊗ float_at ws 10) c.max_zero.ensures

  kept : c.is_lost.result ≡ false → lost_by (float_at ws 13) (max_zero_of x ⊗ float_at ws 10) e ≡ false
  kept h = rw (← c.max_zero.ensures) (sym c.is_lost.ensures ∙ h)

pub float_from_bits-duration : goal.float_from_bits-duration
float_from_bits-duration c = low _ (omega (arith, (parts c.args.w.now c.requires.0).duration))

pub float_from_bits-elapsed : goal.float_from_bits-elapsed
float_from_bits-elapsed c = low _ (omega (arith, (parts c.args.w.now c.requires.0).elapsed, (parts c.args.w.now c.requires.0).duration))

pub float_from_bits-add : goal.float_from_bits-add
float_from_bits-add c = low _ (omega (arith, (parts c.args.w.now c.requires.0).scale))

pub float_to_bits-result : goal.float_to_bits-result
float_to_bits-result c = under _ _ c.if-e-duration.true

pub returns-then-e-duration : goal.returns-then-e-duration
returns-then-e-duration c = let p = c.requires in slid (ws (goal.at.returns-then-e-duration c).After-is_lost) (x (goal.at.returns-then-e-duration c).After-is_lost) p.0 p.2 (e (goal.at.returns-then-e-duration c).After-is_lost) p.1 (sum (goal.at.returns-then-e-duration c).After-is_lost) (kept (goal.at.returns-then-e-duration c).After-is_lost c.if-is_lost.false) c.if-duration.false (not-over _ _ c.if-e-duration.true)

pub turned-t-requires : goal.turned-t-requires
turned-t-requires c = let f = parts (ws (goal.at.turned-t-requires c).After-is_lost) c.requires.0 in
    (f.count, f.flag)

pub returns-then-t : goal.returns-then-t
returns-then-t c = let p = c.requires in ended (ws (goal.at.returns-then-t c).After-is_lost) (x (goal.at.returns-then-t c).After-is_lost) p.0 p.2 (e (goal.at.returns-then-t c).After-is_lost) p.1 (sum (goal.at.returns-then-t c).After-is_lost) (kept (goal.at.returns-then-t c).After-is_lost c.if-is_lost.false) c.if-duration.false c.if-duration-e.true _ c.turned-t.ensures c.if-t.true

pub float_to_bits-result-then-over-duration : goal.float_to_bits-result-then-over-duration
float_to_bits-result-then-over-duration c = under _ _ c.if-over-duration.true

pub returns-then-over-duration : goal.returns-then-over-duration
returns-then-over-duration c = let p = c.requires in folded-once (ws (goal.at.returns-then-over-duration c).After-is_lost) (x (goal.at.returns-then-over-duration c).After-is_lost) p.0 p.2 (e (goal.at.returns-then-over-duration c).After-is_lost) p.1 (sum (goal.at.returns-then-over-duration c).After-is_lost) (kept (goal.at.returns-then-over-duration c).After-is_lost c.if-is_lost.false) c.if-duration.false c.if-duration-e.true _ c.turned-t.ensures _ c.if-t.false refl (not-over _ _ c.if-over-duration.true)
