-- Document 01, "Refusal numbers", 3: the parameters of an easing, both ways, and their limits.
use Rattle.std.specs.Prelude.{ℕ, Bool, ◌&&◌, leb, eqb, get_or, Float}
use Rattle.std.specs.Float.Ieee.{le, eq}
use Rattle.math.specs.Rounded.{f32, zero_f}
use Rattle.math.specs.Range.{is_finite, size_of}
use Rattle.easing.specs.declared.kinds.Easing.{Easing}
use Rattle.easing.specs.declared.kinds.Easing.TheVariants.{Linear, EaseInQuad, EaseOutQuad, EaseInOutQuad, EaseInCubic, EaseOutCubic, EaseInOutCubic, EaseInQuart, EaseOutQuart, EaseInOutQuart, EaseInQuint, EaseOutQuint, EaseInOutQuint, EaseInSine, EaseOutSine, EaseInOutSine, EaseInExpo, EaseOutExpo, EaseInOutExpo, EaseInCirc, EaseOutCirc, EaseInOutCirc, EaseInBack, EaseOutBack, EaseInOutBack, EaseInElastic, EaseOutElastic, EaseInOutElastic, EaseInBounce, EaseOutBounce, EaseInOutBounce, CubicBezier, Steps, RoughEase, SlowMo, Wiggle, CustomBounce, ExpoScale}
use Rattle.easing.specs.declared.params.Params.{Params}
use Rattle.easing.specs.Kinds.{all_named}

-- two that have no limit of size, a and c, two that have one, b and d, and a count; the smallest count of the kind is 0
abbrev pub params : Float → Float → Float → Float → ℕ → Params
params a b c d n = record { a = a; b = b; c = c; d = d; count = n; least = 0 }

abbrev pub no_params : Params
no_params = params zero_f zero_f zero_f zero_f 0

-- what a kind does not have is 0. The twelve are refused for their kind, 2, before their parameters, 3
unfoldable pub params_of : Easing → Params
params_of Linear = no_params
params_of EaseInQuad = no_params
params_of EaseOutQuad = no_params
params_of EaseInOutQuad = no_params
params_of EaseInCubic = no_params
params_of EaseOutCubic = no_params
params_of EaseInOutCubic = no_params
params_of EaseInQuart = no_params
params_of EaseOutQuart = no_params
params_of EaseInOutQuart = no_params
params_of EaseInQuint = no_params
params_of EaseOutQuint = no_params
params_of EaseInOutQuint = no_params
params_of EaseInSine = no_params
params_of EaseOutSine = no_params
params_of EaseInOutSine = no_params
params_of EaseInExpo = no_params
params_of EaseOutExpo = no_params
params_of EaseInOutExpo = no_params
params_of EaseInCirc = no_params
params_of EaseOutCirc = no_params
params_of EaseInOutCirc = no_params
params_of EaseInBack = no_params
params_of EaseOutBack = no_params
params_of EaseInOutBack = no_params
params_of EaseInElastic = no_params
params_of EaseOutElastic = no_params
params_of EaseInOutElastic = no_params
params_of EaseInBounce = no_params
params_of EaseOutBounce = no_params
params_of EaseInOutBounce = no_params
params_of (CubicBezier x1 y1 x2 y2) = params x1 y1 x2 y2 0
params_of (Steps n) = params zero_f zero_f zero_f zero_f n
params_of (RoughEase strength points) = params strength zero_f zero_f zero_f points
params_of (SlowMo ratio power) = params ratio power zero_f zero_f 0
params_of (Wiggle wiggles) = params zero_f zero_f zero_f zero_f wiggles
params_of (CustomBounce strength) = params strength zero_f zero_f zero_f 0
params_of (ExpoScale start end) = params start end zero_f zero_f 0

-- the kind of e, with the parameters p
unfoldable pub with_params : Params → Easing → Easing
with_params p Linear = Linear
with_params p EaseInQuad = EaseInQuad
with_params p EaseOutQuad = EaseOutQuad
with_params p EaseInOutQuad = EaseInOutQuad
with_params p EaseInCubic = EaseInCubic
with_params p EaseOutCubic = EaseOutCubic
with_params p EaseInOutCubic = EaseInOutCubic
with_params p EaseInQuart = EaseInQuart
with_params p EaseOutQuart = EaseOutQuart
with_params p EaseInOutQuart = EaseInOutQuart
with_params p EaseInQuint = EaseInQuint
with_params p EaseOutQuint = EaseOutQuint
with_params p EaseInOutQuint = EaseInOutQuint
with_params p EaseInSine = EaseInSine
with_params p EaseOutSine = EaseOutSine
with_params p EaseInOutSine = EaseInOutSine
with_params p EaseInExpo = EaseInExpo
with_params p EaseOutExpo = EaseOutExpo
with_params p EaseInOutExpo = EaseInOutExpo
with_params p EaseInCirc = EaseInCirc
with_params p EaseOutCirc = EaseOutCirc
with_params p EaseInOutCirc = EaseInOutCirc
with_params p EaseInBack = EaseInBack
with_params p EaseOutBack = EaseOutBack
with_params p EaseInOutBack = EaseInOutBack
with_params p EaseInElastic = EaseInElastic
with_params p EaseOutElastic = EaseOutElastic
with_params p EaseInOutElastic = EaseInOutElastic
with_params p EaseInBounce = EaseInBounce
with_params p EaseOutBounce = EaseOutBounce
with_params p EaseInOutBounce = EaseInOutBounce
with_params p (CubicBezier x1 y1 x2 y2) = CubicBezier p.a p.b p.c p.d
with_params p (Steps n) = Steps p.count
with_params p (RoughEase strength points) = RoughEase p.a p.count
with_params p (SlowMo ratio power) = SlowMo p.a p.b
with_params p (Wiggle wiggles) = Wiggle p.count
with_params p (CustomBounce strength) = CustomBounce p.a
with_params p (ExpoScale start end) = ExpoScale p.a p.b

-- the kind with number k, with the parameters p; Linear for a number of none
abbrev pub of_number : ℕ → Params → Easing
of_number k p = with_params p (get_or all_named k Linear)

-- 1,024
abbrev pub limit_f : Float
limit_f = f32 0x4480_0000

-- at most 1,024 in size
abbrev pub up_to_1024 : Float → Bool
up_to_1024 x = le (size_of x) limit_f

-- "parameter is not finite, a Bezier y or a power is beyond 1,024 in size, or Steps is above 65,536"; and the count is no smaller than the kind's smallest
unfoldable pub within_of : Params → Bool
within_of p =
    is_finite p.a && up_to_1024 p.b && is_finite p.c && up_to_1024 p.d && leb p.least p.count && leb p.count 65536

-- as the Rust compares them: -0 equals 0. `least` is the kind's, and no parameter
unfoldable pub equal_of : Params → Params → Bool
equal_of p q = eq p.a q.a && eq p.b q.b && eq p.c q.c && eq p.d q.d && eqb p.count q.count
