-- Every value that an easing answers is finite, and at most 134,217,728 in size. Assumes nothing.
use Rattle.std.specs.Prelude.{Err, Ok, Result, Option, None, Some}
use Prim.Native.Nat.{ℕ, ◌≤◌}
use mathlib.Core.Path.{refl, subst}
use mathlib.Core.Bool.{Bool, true, false}
use lib.Dec.{T, leb→le, lit≤}
use lib.Ieee.{Float, is_nan, of_bits}
use lib.Ieee.Fits.{and_l, and_r}
use Rattle.math.specs.Whole.{Is}
use Rattle.math.specs.Range.{clamp01_of, Within, AtMost}
use Rattle.math.proofs.Choice.{by-test}
use Rattle.math.proofs.Numbers.{finite_number}
use Rattle.math.proofs.Ranges.{clamped, within-at-most}
use Rattle.math.proofs.Sizes.{at-most-finite, at-most-more, size-at-most}
use Rattle.curves.specs.Powers.{quad, cubic, quart, quint, in_power, out_power, in_out_power}
use Rattle.curves.specs.Circ.{in_circ, out_circ, in_out_circ}
use Rattle.curves.specs.Back.{in_back, out_back, in_out_back}
use Rattle.curves.specs.Bounce.{in_bounce, out_bounce, in_out_bounce, custom_bounce}
use Rattle.curves.specs.Stairs.{steps_of}
use Rattle.bezier.specs.Bezier.{cubic_bezier}
use Rattle.curves.proofs.Bounds.{in-power-most, out-power-most, in-out-power-most, in-back, out-back, in-out-back, in-bounce, out-bounce, in-out-bounce, custom-bounce-most, slow-mo-most, steps-within}
use Rattle.curves.proofs.Circles.{circ-at-most}
use Rattle.bezier.specs.declared.types.Solved.{Solved}
use Rattle.bezier.proofs.Answers.{answer-at-most}
use Rattle.refusal.specs.declared.Refusal.TheVariants.{ProgressIsNan}
use Rattle.easing.specs.Kinds.{curve_of}
use Rattle.easing.specs.Params.{limit_f, up_to_1024, params_of, within_of}
use Rattle.easing.specs.Apply.{search_of, eased_at, apply_of}
use Rattle.easing.specs.Promises.{ApplyBounded, ApplyFinite}
use Rattle.easing.specs.declared.kinds.Easing.{Easing}
use Rattle.easing.specs.declared.kinds.Easing.TheVariants.{Linear, EaseInQuad, EaseOutQuad, EaseInOutQuad, EaseInCubic, EaseOutCubic, EaseInOutCubic, EaseInQuart, EaseOutQuart, EaseInOutQuart, EaseInQuint, EaseOutQuint, EaseInOutQuint, EaseInSine, EaseOutSine, EaseInOutSine, EaseInExpo, EaseOutExpo, EaseInOutExpo, EaseInCirc, EaseOutCirc, EaseInOutCirc, EaseInBack, EaseOutBack, EaseInOutBack, EaseInElastic, EaseOutElastic, EaseInOutElastic, EaseInBounce, EaseOutBounce, EaseInOutBounce, CubicBezier, Steps, RoughEase, SlowMo, Wiggle, CustomBounce, ExpoScale}
use Rattle.bezier.specs.declared.types.Found.{Found}
use Rattle.refusal.specs.declared.Refusal.{Refusal}

limit_is : Is limit_f 1024
unfolding of_bits
limit_is = (refl, refl)

up-to-1024 : (x : Float) → T (up_to_1024 x) → AtMost 1024 x
up-to-1024 x h = size-at-most 1024 x limit_f limit_is h

abbrev Bounded : Option (Float → Float) → Float → Type 0
Bounded None u = Unit {0}
Bounded (Some f) u = AtMost 134217728 (f u)

module _ (u : Float) (w : Within u) where
  more : (n : ℕ) (x : Float) → n ≤ 134217728 → AtMost n x → AtMost 134217728 x
  more n x l h = at-most-more n 134217728 x l h

  bounded : (e : Easing) → T (within_of (params_of e)) → Bounded (curve_of e) u
  unfolding curve_of within_of params_of
  bounded Linear h = more 1 u (lit≤ tt) (within-at-most u w)
  bounded EaseInQuad h = more 1 (in_power quad u) (lit≤ tt) (in-power-most quad u w)
  bounded EaseOutQuad h = more 2 (out_power quad u) (lit≤ tt) (out-power-most quad u w)
  bounded EaseInOutQuad h = more 16 (in_out_power quad u) (lit≤ tt) (in-out-power-most quad u w)
  bounded EaseInCubic h = more 1 (in_power cubic u) (lit≤ tt) (in-power-most cubic u w)
  bounded EaseOutCubic h = more 2 (out_power cubic u) (lit≤ tt) (out-power-most cubic u w)
  bounded EaseInOutCubic h = more 16 (in_out_power cubic u) (lit≤ tt) (in-out-power-most cubic u w)
  bounded EaseInQuart h = more 1 (in_power quart u) (lit≤ tt) (in-power-most quart u w)
  bounded EaseOutQuart h = more 2 (out_power quart u) (lit≤ tt) (out-power-most quart u w)
  bounded EaseInOutQuart h = more 16 (in_out_power quart u) (lit≤ tt) (in-out-power-most quart u w)
  bounded EaseInQuint h = more 1 (in_power quint u) (lit≤ tt) (in-power-most quint u w)
  bounded EaseOutQuint h = more 2 (out_power quint u) (lit≤ tt) (out-power-most quint u w)
  bounded EaseInOutQuint h = more 16 (in_out_power quint u) (lit≤ tt) (in-out-power-most quint u w)
  bounded EaseInSine h = tt
  bounded EaseOutSine h = tt
  bounded EaseInOutSine h = tt
  bounded EaseInExpo h = tt
  bounded EaseOutExpo h = tt
  bounded EaseInOutExpo h = tt
  bounded EaseInCirc h = more 1 (in_circ u) (lit≤ tt) (circ-at-most u w).0
  bounded EaseOutCirc h = more 1 (out_circ u) (lit≤ tt) (circ-at-most u w).1
  bounded EaseInOutCirc h = more 2 (in_out_circ u) (lit≤ tt) (circ-at-most u w).2
  bounded EaseInBack h = more 5 (in_back u) (lit≤ tt) (in-back u w)
  bounded EaseOutBack h = more 6 (out_back u) (lit≤ tt) (out-back u w)
  bounded EaseInOutBack h = more 306 (in_out_back u) (lit≤ tt) (in-out-back u w)
  bounded EaseInElastic h = tt
  bounded EaseOutElastic h = tt
  bounded EaseInOutElastic h = tt
  bounded EaseInBounce h = more 290 (in_bounce u) (lit≤ tt) (in-bounce u w)
  bounded EaseOutBounce h = more 289 (out_bounce u) (lit≤ tt) (out-bounce u w)
  bounded EaseInOutBounce h = more 290 (in_out_bounce u) (lit≤ tt) (in-out-bounce u w)
  bounded (CubicBezier x1 y1 x2 y2) h = more 24577 (cubic_bezier u x1 y1 x2 y2) (lit≤ tt) (answer-at-most 1024 (lit≤ tt) u x1 y1 x2 y2 w (search (and_l, and_r)) (search (and_l, and_r)) (up-to-1024 y1 (search (and_l, and_r))) (up-to-1024 y2 (search (and_l, and_r))))
  bounded (Steps n) h = more 1 (steps_of u n) (lit≤ tt) (within-at-most (steps_of u n) (steps-within u n w (leb→le n 65536 (search (and_l, and_r)))))
  bounded (RoughEase strength points) h = tt
  bounded (SlowMo ratio power) h = slow-mo-most u ratio power w (finite_number ratio (search (and_l, and_r))) (up-to-1024 power (search (and_l, and_r)))
  bounded (Wiggle wiggles) h = tt
  bounded (CustomBounce strength) h = more 290 (custom_bounce u strength) (lit≤ tt) (custom-bounce-most u w strength (finite_number strength (search (and_l, and_r))))
  bounded (ExpoScale start end) h = tt

abbrev Fine : Result Found Refusal → Type 0
Fine (Ok f) = AtMost 134217728 f.value
Fine (Err r) = Unit {0}

eased-fine : (c : Option (Float → Float)) (search : Float → Solved) (fine : Bool) (u : Float) → (T fine → Bounded c u) → Fine (eased_at c search fine u)
eased-fine None search fine u h = tt
eased-fine (Some f) search true u h = h tt
eased-fine (Some f) search false u h = tt

apply-fine : (e : Easing) (t : Float) → Fine (apply_of e t)
unfolding apply_of
apply-fine e t =
    by-test Fine (is_nan t) (Err ProgressIsNan) (eased_at (curve_of e) (search_of e) (within_of (params_of e)) (clamp01_of t)) (λ _. tt)
    (λ h. eased-fine (curve_of e) (search_of e) (within_of (params_of e)) (clamp01_of t) (bounded (clamp01_of t) (clamped t h) e))

pub apply-bounded : ApplyBounded
apply-bounded e t f h = subst Fine h (apply-fine e t)

pub apply-finite : ApplyFinite
apply-finite e t f h = at-most-finite 134217728 f.value (apply-bounded e t f h)
