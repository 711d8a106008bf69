-- Document 01, "What is ported": the supplied kinds with their curves, and the twelve that are named and refused.
use Rattle.std.specs.Prelude.{ℕ, Bool, true, false, List, [], ◌∷◌, Float, Option, Some, None}
use Rattle.math.specs.Rounded.{f32, half_f, one_f, two_f}
use Rattle.curves.specs.Powers.{quad, cubic, quart, quint, in_power, out_power, in_out_power}
use Rattle.curves.specs.Circ.{in_circ, out_circ, in_out_circ}
use Rattle.curves.specs.Back.{in_back, out_back, in_out_back}
use Rattle.curves.specs.Bounce.{in_bounce, out_bounce, in_out_bounce, custom_bounce}
use Rattle.curves.specs.Stairs.{steps_of}
use Rattle.curves.specs.Slow.{slow_mo}
use Rattle.bezier.specs.Bezier.{cubic_bezier}
use Rattle.easing.specs.declared.kinds.Easing.{Easing}
use Rattle.easing.specs.declared.kinds.Easing.TheVariants.{Linear, EaseInQuad, EaseOutQuad, EaseInOutQuad, EaseInCubic, EaseOutCubic, EaseInOutCubic, EaseInQuart, EaseOutQuart, EaseInOutQuart, EaseInQuint, EaseOutQuint, EaseInOutQuint, EaseInSine, EaseOutSine, EaseInOutSine, EaseInExpo, EaseOutExpo, EaseInOutExpo, EaseInCirc, EaseOutCirc, EaseInOutCirc, EaseInBack, EaseOutBack, EaseInOutBack, EaseInElastic, EaseOutElastic, EaseInOutElastic, EaseInBounce, EaseOutBounce, EaseInOutBounce, CubicBezier, Steps, RoughEase, SlowMo, Wiggle, CustomBounce, ExpoScale}

-- the kind's place in `all_named`, from 0
abbrev pub number_of : Easing → ℕ
number_of Linear = 0
number_of EaseInQuad = 1
number_of EaseOutQuad = 2
number_of EaseInOutQuad = 3
number_of EaseInCubic = 4
number_of EaseOutCubic = 5
number_of EaseInOutCubic = 6
number_of EaseInQuart = 7
number_of EaseOutQuart = 8
number_of EaseInOutQuart = 9
number_of EaseInQuint = 10
number_of EaseOutQuint = 11
number_of EaseInOutQuint = 12
number_of EaseInSine = 13
number_of EaseOutSine = 14
number_of EaseInOutSine = 15
number_of EaseInExpo = 16
number_of EaseOutExpo = 17
number_of EaseInOutExpo = 18
number_of EaseInCirc = 19
number_of EaseOutCirc = 20
number_of EaseInOutCirc = 21
number_of EaseInBack = 22
number_of EaseOutBack = 23
number_of EaseInOutBack = 24
number_of EaseInElastic = 25
number_of EaseOutElastic = 26
number_of EaseInOutElastic = 27
number_of EaseInBounce = 28
number_of EaseOutBounce = 29
number_of EaseInOutBounce = 30
number_of (CubicBezier x1 y1 x2 y2) = 31
number_of (Steps n) = 32
number_of (RoughEase strength points) = 33
number_of (SlowMo ratio power) = 34
number_of (Wiggle wiggles) = 35
number_of (CustomBounce strength) = 36
number_of (ExpoScale start end) = 37

-- "The supplied easing kinds number 26": the curve of each, at a progress from 0 to 1. "The other twelve are named and refused": they have none
unfoldable pub curve_of : Easing → Option (Float → Float)
curve_of Linear = Some (λ t. t)
curve_of EaseInQuad = Some (in_power quad)
curve_of EaseOutQuad = Some (out_power quad)
curve_of EaseInOutQuad = Some (in_out_power quad)
curve_of EaseInCubic = Some (in_power cubic)
curve_of EaseOutCubic = Some (out_power cubic)
curve_of EaseInOutCubic = Some (in_out_power cubic)
curve_of EaseInQuart = Some (in_power quart)
curve_of EaseOutQuart = Some (out_power quart)
curve_of EaseInOutQuart = Some (in_out_power quart)
curve_of EaseInQuint = Some (in_power quint)
curve_of EaseOutQuint = Some (out_power quint)
curve_of EaseInOutQuint = Some (in_out_power quint)
curve_of EaseInSine = None
curve_of EaseOutSine = None
curve_of EaseInOutSine = None
curve_of EaseInExpo = None
curve_of EaseOutExpo = None
curve_of EaseInOutExpo = None
curve_of EaseInCirc = Some in_circ
curve_of EaseOutCirc = Some out_circ
curve_of EaseInOutCirc = Some in_out_circ
curve_of EaseInBack = Some in_back
curve_of EaseOutBack = Some out_back
curve_of EaseInOutBack = Some in_out_back
curve_of EaseInElastic = None
curve_of EaseOutElastic = None
curve_of EaseInOutElastic = None
curve_of EaseInBounce = Some in_bounce
curve_of EaseOutBounce = Some out_bounce
curve_of EaseInOutBounce = Some in_out_bounce
curve_of (CubicBezier x1 y1 x2 y2) = Some (λ t. cubic_bezier t x1 y1 x2 y2)
curve_of (Steps n) = Some (λ t. steps_of t n)
curve_of (RoughEase strength points) = None
curve_of (SlowMo ratio power) = Some (λ t. slow_mo t ratio power)
curve_of (Wiggle wiggles) = None
curve_of (CustomBounce strength) = Some (λ t. custom_bounce t strength)
curve_of (ExpoScale start end) = None

abbrev pub is_some : Option (Float → Float) → Bool
is_some None = false
is_some (Some f) = true

unfoldable pub supplied_of : Easing → Bool
unfolding curve_of
supplied_of e = is_some (curve_of e)

-- the source's list: 0.25, 0.1, 0.25, 1 of CubicBezier; 0.5, 0.7 of SlowMo; 0.7 of CustomBounce
abbrev pub all_named : List Easing
all_named =
    Linear
    ∷ EaseInQuad
    ∷ EaseOutQuad
    ∷ EaseInOutQuad
    ∷ EaseInCubic
    ∷ EaseOutCubic
    ∷ EaseInOutCubic
    ∷ EaseInQuart
    ∷ EaseOutQuart
    ∷ EaseInOutQuart
    ∷ EaseInQuint
    ∷ EaseOutQuint
    ∷ EaseInOutQuint
    ∷ EaseInSine
    ∷ EaseOutSine
    ∷ EaseInOutSine
    ∷ EaseInExpo
    ∷ EaseOutExpo
    ∷ EaseInOutExpo
    ∷ EaseInCirc
    ∷ EaseOutCirc
    ∷ EaseInOutCirc
    ∷ EaseInBack
    ∷ EaseOutBack
    ∷ EaseInOutBack
    ∷ EaseInElastic
    ∷ EaseOutElastic
    ∷ EaseInOutElastic
    ∷ EaseInBounce
    ∷ EaseOutBounce
    ∷ EaseInOutBounce
    ∷ CubicBezier (f32 0x3e80_0000) (f32 0x3dcc_cccd) (f32 0x3e80_0000) one_f
    ∷ Steps 1
    ∷ RoughEase half_f 8
    ∷ SlowMo half_f (f32 0x3f33_3333)
    ∷ Wiggle 5
    ∷ CustomBounce (f32 0x3f33_3333)
    ∷ ExpoScale half_f two_f
    ∷ []
