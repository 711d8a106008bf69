-- The mark changes no value: a sample's value is document 01's, and so is what a batch writes. Assumes nothing.
use Rattle.std.specs.Prelude.{Err, Ok, Result}
use Prim.Native.Nat.{◌-◌}
use mathlib.Core.Path.{◌≡◌, refl, ap, ◌∙◌}
use mathlib.Core.Bool.{cond}
use mathlib.Core.List.{List}
use lib.Dec.{eqb}
use lib.ListN.{length, get_or}
use lib.Ieee.{Float, le}
use Rattle.math.specs.Range.{max_zero_of}
use Rattle.math.specs.Blend.{blend_of}
use Rattle.math.proofs.Choice.{of-picked}
use Rattle.bezier.specs.declared.types.Found.{Found}
use Rattle.easing.specs.declared.kinds.Easing.{Easing}
use Rattle.easing.specs.Apply.{apply_of}
use Rattle.easing.specs.Values.{value_part, apply_alone}
use Rattle.easing.proofs.Unchanged.{apply-unchanged}
use Rattle.frames.specs.declared.frame.Keyframe.{Keyframe}
use Rattle.frames.specs.Limits.{no_frame}
use Rattle.frames.specs.Sampling.{first_of, last_of, cut_of, found_in, eased_of, local_progress, between_of, frames_up_to, own_of, pick_of, at_of, sample_of, filled_of}
use Rattle.frames.specs.Values.{value_in, between_alone, pick_alone, sample_alone, filled_alone, SampleUnchanged}
use Rattle.refusal.specs.declared.Refusal.{Refusal}

abbrev value : Found → Float
value f = f.value

eased-unchanged : (e : Easing) (p : Float) → (eased_of e p).value ≡ value_in (apply_alone e p)
eased-unchanged e p = go (apply_of e p) ∙ ap value_in (apply-unchanged e p)
  where
    go : (r : Result Found Refusal) → (found_in r).value ≡ value_in (value_part r)
    go (Ok f) = refl
    go (Err r) = refl

between-unchanged : (k l : Keyframe) (t : Float) → (between_of k l t).value ≡ between_alone k l t
unfolding between_of between_alone
between-unchanged k l t = ap (blend_of k.value l.value) (eased-unchanged k.easing (local_progress k.time l.time t))

pick-unchanged : (first last k l : Keyframe) (t : Float) → (pick_of first last k l t).value ≡ pick_alone first last k l t
pick-unchanged first last k l t =
    of-picked value (le t first.time) (own_of first) (cond (le last.time t) (own_of last) (between_of k l t)) _ _ refl
    (of-picked value (le last.time t) (own_of last) (between_of k l t) _ _ refl (between-unchanged k l t))

pub sample-unchanged : SampleUnchanged
unfolding sample_of sample_alone
sample-unchanged l secs =
    let t = cut_of (max_zero_of secs) (last_of l).time in
    of-picked value (eqb (length l) 1) (own_of (first_of l)) (at_of l t) _ _ refl (pick-unchanged (first_of l) (last_of l) (get_or l (frames_up_to t l - 1) no_frame) (get_or l (frames_up_to t l) no_frame) t)

pub filled-unchanged : (l : List Keyframe) (times out : List Float) → filled_of l times out ≡ filled_alone l times out
unfolding filled_of filled_alone
filled-unchanged l times out = simp (sample-unchanged l)
