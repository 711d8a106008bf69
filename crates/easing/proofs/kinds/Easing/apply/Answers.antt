-- `apply` meets its contract: each arm is told its kind, at which the definition computes to what the arm's curve ensures. Assumes nothing.
use Rattle.std.specs.Prelude.{Err, Ok, Result}
use borrow.Author.Tests.{not-true}
use mathlib.Core.Bool.{Bool, true, false, not}
use mathlib.Core.Path.{◌≡◌, refl, sym, subst⁻¹, ◌∙◌, ap}
use lib.Ieee.{Float}
use Rattle.math.specs.Range.{Within}
use Rattle.math.proofs.Ranges.{clamped}
use Rattle.bezier.specs.declared.types.Found.{Found}
use Rattle.bezier.specs.Bezier.{plain_of}
use Rattle.refusal.specs.declared.Refusal.TheVariants.{EasingNotSupplied}
use Rattle.easing.specs.declared.kinds.Easing.{Easing}
use Rattle.easing.specs.declared.params.Params.{Params}
use Rattle.easing.specs.Kinds.{curve_of, supplied_of}
use Rattle.easing.specs.Params.{no_params, params_of, with_params, within_of}
use Rattle.easing.specs.Apply.{limited_of, search_of, eased_at, apply_of}
use Rattle.easing.proofs.Tags.{twelve, by-tag}
use Rattle.easing.proofs.Answering.{no_number, not-supplied, bare, with_params_lem}
use Rattle.easing.proofs.kinds.Easing.apply.Goals as goal
use Rattle.easing.proofs.kinds.Easing.apply.Goals.{After-clamp01-u}
use Rattle.refusal.specs.declared.Refusal.{Refusal}

-- once the progress is clamped: u, for a t that is no NaN
module _ (c : After-clamp01-u) where
  abbrev self : Easing
  self = c.args.self

  abbrev t : Float
  t = c.args.t.0

  abbrev u : Float
  u = c.clamp01-u.result

  inside : Within u
  inside = subst⁻¹ Within c.clamp01-u.ensures (clamped t (sym c.is_nan.ensures ∙ c.if-is_nan.false))

  none : supplied_of self ≡ false → Err EasingNotSupplied ≡ apply_of self t
  none = not-supplied self t _ c.is_nan.ensures c.if-is_nan.false

  -- at a kind x, whose curve w the call's answer v is
  module _ (x : Easing) (e : self ≡ x) where
    plainly : (v w : Float) (r : Result Found Refusal) → v ≡ w → r ≡ Ok (plain_of v) → params_of x ≡ no_params → eased_at (curve_of x) (search_of x) true u ≡ Ok (plain_of w) → r ≡ apply_of self t
    plainly = bare self t _ c.is_nan.ensures c.if-is_nan.false u c.clamp01-u.ensures x e

    limited : (f g : Found) (p : Params) (fine : Bool) (r : Result Found Refusal) → f ≡ g → p ≡ params_of x → fine ≡ within_of p → r ≡ limited_of fine f → ((fine : Bool) → eased_at (curve_of x) (search_of x) fine u ≡ limited_of fine g) → r ≡ apply_of self t
    limited = with_params_lem self t _ c.is_nan.ensures c.if-is_nan.false u c.clamp01-u.ensures x e

pub returns-then-is_nan : goal.returns-then-is_nan
unfolding curve_of supplied_of params_of with_params search_of
returns-then-is_nan c = no_number _ _ _ c.is_nan.ensures c.if-is_nan.true

pub ease_in_circ-requires : goal.ease_in_circ-requires
unfolding curve_of supplied_of params_of with_params search_of
ease_in_circ-requires c = inside (goal.at.ease_in_circ-requires c).After-clamp01-u

pub ease_out_circ-requires : goal.ease_out_circ-requires
unfolding curve_of supplied_of params_of with_params search_of
ease_out_circ-requires c = inside (goal.at.ease_out_circ-requires c).After-clamp01-u

pub ease_in_out_circ-requires : goal.ease_in_out_circ-requires
unfolding curve_of supplied_of params_of with_params search_of
ease_in_out_circ-requires c = inside (goal.at.ease_in_out_circ-requires c).After-clamp01-u

pub returns-in-Linear : goal.returns-in-Linear
unfolding curve_of supplied_of params_of with_params search_of
returns-in-Linear c = plainly (goal.at.returns-in-Linear c).After-clamp01-u _ c.in-Linear.is _ _ _ refl c.plain.ensures refl refl

pub returns-in-EaseInQuad : goal.returns-in-EaseInQuad
unfolding curve_of supplied_of params_of with_params search_of
returns-in-EaseInQuad c = plainly (goal.at.returns-in-EaseInQuad c).After-clamp01-u _ c.in-EaseInQuad.is _ _ _ c.ease_in_quad.ensures c.plain-in-EaseInQuad.ensures refl refl

pub returns-in-EaseOutQuad : goal.returns-in-EaseOutQuad
unfolding curve_of supplied_of params_of with_params search_of
returns-in-EaseOutQuad c = plainly (goal.at.returns-in-EaseOutQuad c).After-clamp01-u _ c.in-EaseOutQuad.is _ _ _ c.ease_out_quad.ensures c.plain-in-EaseOutQuad.ensures refl refl

pub returns-in-EaseInOutQuad : goal.returns-in-EaseInOutQuad
unfolding curve_of supplied_of params_of with_params search_of
returns-in-EaseInOutQuad c = plainly (goal.at.returns-in-EaseInOutQuad c).After-clamp01-u _ c.in-EaseInOutQuad.is _ _ _ c.ease_in_out_quad.ensures c.plain-in-EaseInOutQuad.ensures refl refl

pub returns-in-EaseInCubic : goal.returns-in-EaseInCubic
unfolding curve_of supplied_of params_of with_params search_of
returns-in-EaseInCubic c = plainly (goal.at.returns-in-EaseInCubic c).After-clamp01-u _ c.in-EaseInCubic.is _ _ _ c.ease_in_cubic.ensures c.plain-in-EaseInCubic.ensures refl refl

pub returns-in-EaseOutCubic : goal.returns-in-EaseOutCubic
unfolding curve_of supplied_of params_of with_params search_of
returns-in-EaseOutCubic c = plainly (goal.at.returns-in-EaseOutCubic c).After-clamp01-u _ c.in-EaseOutCubic.is _ _ _ c.ease_out_cubic.ensures c.plain-in-EaseOutCubic.ensures refl refl

pub returns-in-EaseInOutCubic : goal.returns-in-EaseInOutCubic
unfolding curve_of supplied_of params_of with_params search_of
returns-in-EaseInOutCubic c = plainly (goal.at.returns-in-EaseInOutCubic c).After-clamp01-u _ c.in-EaseInOutCubic.is _ _ _ c.ease_in_out_cubic.ensures c.plain-in-EaseInOutCubic.ensures refl refl

pub returns-in-EaseInQuart : goal.returns-in-EaseInQuart
unfolding curve_of supplied_of params_of with_params search_of
returns-in-EaseInQuart c = plainly (goal.at.returns-in-EaseInQuart c).After-clamp01-u _ c.in-EaseInQuart.is _ _ _ c.ease_in_quart.ensures c.plain-in-EaseInQuart.ensures refl refl

pub returns-in-EaseOutQuart : goal.returns-in-EaseOutQuart
unfolding curve_of supplied_of params_of with_params search_of
returns-in-EaseOutQuart c = plainly (goal.at.returns-in-EaseOutQuart c).After-clamp01-u _ c.in-EaseOutQuart.is _ _ _ c.ease_out_quart.ensures c.plain-in-EaseOutQuart.ensures refl refl

pub returns-in-EaseInOutQuart : goal.returns-in-EaseInOutQuart
unfolding curve_of supplied_of params_of with_params search_of
returns-in-EaseInOutQuart c = plainly (goal.at.returns-in-EaseInOutQuart c).After-clamp01-u _ c.in-EaseInOutQuart.is _ _ _ c.ease_in_out_quart.ensures c.plain-in-EaseInOutQuart.ensures refl refl

pub returns-in-EaseInQuint : goal.returns-in-EaseInQuint
unfolding curve_of supplied_of params_of with_params search_of
returns-in-EaseInQuint c = plainly (goal.at.returns-in-EaseInQuint c).After-clamp01-u _ c.in-EaseInQuint.is _ _ _ c.ease_in_quint.ensures c.plain-in-EaseInQuint.ensures refl refl

pub returns-in-EaseOutQuint : goal.returns-in-EaseOutQuint
unfolding curve_of supplied_of params_of with_params search_of
returns-in-EaseOutQuint c = plainly (goal.at.returns-in-EaseOutQuint c).After-clamp01-u _ c.in-EaseOutQuint.is _ _ _ c.ease_out_quint.ensures c.plain-in-EaseOutQuint.ensures refl refl

pub returns-in-EaseInOutQuint : goal.returns-in-EaseInOutQuint
unfolding curve_of supplied_of params_of with_params search_of
returns-in-EaseInOutQuint c = plainly (goal.at.returns-in-EaseInOutQuint c).After-clamp01-u _ c.in-EaseInOutQuint.is _ _ _ c.ease_in_out_quint.ensures c.plain-in-EaseInOutQuint.ensures refl refl

pub returns-in-EaseInCirc : goal.returns-in-EaseInCirc
unfolding curve_of supplied_of params_of with_params search_of
returns-in-EaseInCirc c = plainly (goal.at.returns-in-EaseInCirc c).After-clamp01-u _ c.in-EaseInCirc.is _ _ _ c.ease_in_circ.ensures c.plain-in-EaseInCirc.ensures refl refl

pub returns-in-EaseOutCirc : goal.returns-in-EaseOutCirc
unfolding curve_of supplied_of params_of with_params search_of
returns-in-EaseOutCirc c = plainly (goal.at.returns-in-EaseOutCirc c).After-clamp01-u _ c.in-EaseOutCirc.is _ _ _ c.ease_out_circ.ensures c.plain-in-EaseOutCirc.ensures refl refl

pub returns-in-EaseInOutCirc : goal.returns-in-EaseInOutCirc
unfolding curve_of supplied_of params_of with_params search_of
returns-in-EaseInOutCirc c = plainly (goal.at.returns-in-EaseInOutCirc c).After-clamp01-u _ c.in-EaseInOutCirc.is _ _ _ c.ease_in_out_circ.ensures c.plain-in-EaseInOutCirc.ensures refl refl

pub returns-in-EaseInBack : goal.returns-in-EaseInBack
unfolding curve_of supplied_of params_of with_params search_of
returns-in-EaseInBack c = plainly (goal.at.returns-in-EaseInBack c).After-clamp01-u _ c.in-EaseInBack.is _ _ _ c.ease_in_back.ensures c.plain-in-EaseInBack.ensures refl refl

pub returns-in-EaseOutBack : goal.returns-in-EaseOutBack
unfolding curve_of supplied_of params_of with_params search_of
returns-in-EaseOutBack c = plainly (goal.at.returns-in-EaseOutBack c).After-clamp01-u _ c.in-EaseOutBack.is _ _ _ c.ease_out_back.ensures c.plain-in-EaseOutBack.ensures refl refl

pub returns-in-EaseInOutBack : goal.returns-in-EaseInOutBack
unfolding curve_of supplied_of params_of with_params search_of
returns-in-EaseInOutBack c = plainly (goal.at.returns-in-EaseInOutBack c).After-clamp01-u _ c.in-EaseInOutBack.is _ _ _ c.ease_in_out_back.ensures c.plain-in-EaseInOutBack.ensures refl refl

pub returns-in-EaseInBounce : goal.returns-in-EaseInBounce
unfolding curve_of supplied_of params_of with_params search_of
returns-in-EaseInBounce c = plainly (goal.at.returns-in-EaseInBounce c).After-clamp01-u _ c.in-EaseInBounce.is _ _ _ c.ease_in_bounce.ensures c.plain-in-EaseInBounce.ensures refl refl

pub returns-in-EaseOutBounce : goal.returns-in-EaseOutBounce
unfolding curve_of supplied_of params_of with_params search_of
returns-in-EaseOutBounce c = plainly (goal.at.returns-in-EaseOutBounce c).After-clamp01-u _ c.in-EaseOutBounce.is _ _ _ c.ease_out_bounce.ensures c.plain-in-EaseOutBounce.ensures refl refl

pub returns-in-EaseInOutBounce : goal.returns-in-EaseInOutBounce
unfolding curve_of supplied_of params_of with_params search_of
returns-in-EaseInOutBounce c = plainly (goal.at.returns-in-EaseInOutBounce c).After-clamp01-u _ c.in-EaseInOutBounce.is _ _ _ c.ease_in_out_bounce.ensures c.plain-in-EaseInOutBounce.ensures refl refl

pub returns-in-CubicBezier : goal.returns-in-CubicBezier
unfolding curve_of supplied_of params_of with_params search_of
returns-in-CubicBezier c = limited (goal.at.returns-in-CubicBezier c).After-clamp01-u _ c.in-CubicBezier.is _ _ _ _ _ c.cubic_bezier.ensures c.params_of.ensures c.within.ensures c.limited.ensures (λ fine. refl)

pub returns-in-Steps : goal.returns-in-Steps
unfolding curve_of supplied_of params_of with_params search_of
returns-in-Steps c = limited (goal.at.returns-in-Steps c).After-clamp01-u _ c.in-Steps.is _ _ _ _ _ (c.plain-in-Steps.ensures ∙ ap plain_of c.steps.ensures) c.params_of-in-Steps.ensures c.within-in-Steps.ensures c.limited-in-Steps.ensures (λ fine. refl)

pub returns-in-SlowMo : goal.returns-in-SlowMo
unfolding curve_of supplied_of params_of with_params search_of
returns-in-SlowMo c = limited (goal.at.returns-in-SlowMo c).After-clamp01-u _ c.in-SlowMo.is _ _ _ _ _ (c.plain-in-SlowMo.ensures ∙ ap plain_of c.slow_mo.ensures) c.params_of-in-SlowMo.ensures c.within-in-SlowMo.ensures c.limited-in-SlowMo.ensures (λ fine. refl)

pub returns-in-CustomBounce : goal.returns-in-CustomBounce
unfolding curve_of supplied_of params_of with_params search_of
returns-in-CustomBounce c = limited (goal.at.returns-in-CustomBounce c).After-clamp01-u _ c.in-CustomBounce.is _ _ _ _ _ (c.plain-in-CustomBounce.ensures ∙ ap plain_of c.custom_bounce.ensures) c.params_of-in-CustomBounce.ensures c.within-in-CustomBounce.ensures c.limited-in-CustomBounce.ensures (λ fine. refl)

pub returns-in_default : goal.returns-in_default
unfolding curve_of supplied_of params_of with_params search_of
returns-in_default c = none (goal.at.returns-in_default c).After-clamp01-u (not-true _ (by-tag (λ e. not (supplied_of e)) twelve c.args.self tt c.in_default.in_default-own.keys27))
