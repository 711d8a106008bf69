-- `run` meets its contract. Assumes nothing.
use Rattle.std.proofs.Common.{◌≡◌, Bool, true, false, ◌&&◌, subst}
use lib.Ieee.{Float, of_bits, lt}
use Rattle.math.specs.Rounded.{zero_f, ◌⊗◌}
use Rattle.math.specs.Lost.{lost_by}
use Rattle.refusal.specs.declared.Refusal.TheVariants.{StepLost}
use Rattle.tween.specs.declared.record.Tween.{Tween}
use Rattle.tween.specs.Update.{advanced, run_of}
use Rattle.tween.proofs.step.run.Goals as goal
use Rattle.refusal.specs.Refusing.{rejected}

-- the code's test, with the call's answer in it
abbrev tested : Tween → Float → Bool → Bool
tested t x b = lt zero_f x && lt zero_f t.time_scale && lt t.elapsed t.duration && b

module _ (t : Tween) (x e : Float) (b : Bool) (p : b ≡ lost_by t.elapsed (x ⊗ t.time_scale) e) where
  lost : tested t x b ≡ true → rejected t StepLost ≡ run_of t x e
  unfolding run_of
  lost q = rw (subst (λ (c : Bool). tested t x c ≡ true) p q)

  taken : tested t x b ≡ false → advanced t t.delay_elapsed e ≡ run_of t x e
  unfolding run_of
  taken q = rw (subst (λ (c : Bool). tested t x c ≡ false) p q)

pub returns-then-x-t : goal.returns-then-x-t
unfolding of_bits
returns-then-x-t c = lost _ _ _ _ c.is_lost-lost.ensures c.if-x-t.true

pub returns : goal.returns
unfolding of_bits
returns c = taken _ _ _ _ c.is_lost-lost.ensures c.if-x-t.false
