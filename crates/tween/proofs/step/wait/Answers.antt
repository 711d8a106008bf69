-- `wait` meets its contract. Assumes nothing.
use Rattle.std.proofs.Common.{◌≡◌, Bool, true, false, ◌&&◌, subst}
use lib.Ieee.{Float, of_bits, lt}
use Rattle.math.specs.Rounded.{zero_f, ◌⊕◌, ◌⊖◌, ◌⊗◌}
use Rattle.math.specs.Lost.{lost_by}
use Rattle.refusal.specs.declared.Refusal.TheVariants.{StepLost}
use Rattle.tween.specs.declared.record.Tween.{Tween}
use Rattle.tween.specs.Parts.{put}
use Rattle.tween.specs.Update.{advanced, waiting, wait_of, updated}
use Rattle.tween.proofs.step.wait.Goals as goal
use Rattle.refusal.specs.Refusing.{rejected}

-- the code's test, with the call's answer in it
module _ (t : Tween) (x w : Float) (b : Bool) (p : b ≡ lost_by t.delay_elapsed x w) where
  lost : (lt zero_f x && b) ≡ true → rejected t StepLost ≡ wait_of t x w
  unfolding wait_of
  lost q = rw (subst (λ (c : Bool). (lt zero_f x && c) ≡ true) p q)

  waits : (lt zero_f x && b) ≡ false → lt w t.delay ≡ true → updated (put (waiting t w) t) 0 true ≡ wait_of t x w
  unfolding wait_of
  waits q d = rw (subst (λ (c : Bool). (lt zero_f x && c) ≡ false) p q, d)

  -- the delay is over, and nothing is lost
  over : (lt zero_f x && b) ≡ false → lt w t.delay ≡ false → advanced t w (t.elapsed ⊕ (w ⊖ t.delay) ⊗ t.time_scale) ≡ wait_of t x w
  unfolding wait_of
  over q d = rw (subst (λ (c : Bool). (lt zero_f x && c) ≡ false) p q, d)

pub returns-then-x-lost : goal.returns-then-x-lost
unfolding of_bits
returns-then-x-lost c = lost _ _ _ _ c.is_lost-lost.ensures c.if-x-lost.true

pub returns-then-waited-t : goal.returns-then-waited-t
unfolding of_bits
returns-then-waited-t c = waits _ _ _ _ c.is_lost-lost.ensures c.if-x-lost.false c.if-waited-t.true

pub returns : goal.returns
unfolding of_bits
returns c = over _ _ _ _ c.is_lost-lost.ensures c.if-x-lost.false c.if-waited-t.false
