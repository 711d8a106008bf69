-- Document 01, "Easing": the curves of the second to the fifth power, each In, Out and InOut, stated once over the power. The formulas are those of `easing.rs`.
use Rattle.std.specs.Prelude.{cond, Float}
use Rattle.std.specs.Float.Ieee.{lt, neg}
use Rattle.math.specs.Rounded.{◌⊕◌, ◌⊖◌, ◌⊗◌, ◌⊘◌, f32, half_f, one_f, two_f}
use Rattle.math.specs.Range.{Within, AtMost}

pub data Power : Type 0 where
  quad cubic quart quint : Power

-- "powi: square x·x; cube (x·x)·x; fourth (x·x)·(x·x); fifth that times x"
abbrev pub powi : Power → Float → Float
powi quad x = x ⊗ x
powi cubic x = x ⊗ x ⊗ x
powi quart x = (x ⊗ x) ⊗ (x ⊗ x)
powi quint x = (x ⊗ x) ⊗ (x ⊗ x) ⊗ x

-- c times t, once less than the power, from the left: `c * t * t ..`
abbrev pub times_t : Power → Float → Float → Float
times_t quad c t = c ⊗ t
times_t cubic c t = c ⊗ t ⊗ t
times_t quart c t = c ⊗ t ⊗ t ⊗ t
times_t quint c t = c ⊗ t ⊗ t ⊗ t ⊗ t

-- 2, 4, 8, 16
abbrev pub lead_of : Power → Float
lead_of quad = two_f
lead_of cubic = f32 0x4080_0000
lead_of quart = f32 0x4100_0000
lead_of quint = f32 0x4180_0000

-- `t * t ..`
abbrev pub in_power : Power → Float → Float
in_power p t = times_t p t t

-- `1.0 - powi(1.0 - t, p)`
abbrev pub out_power : Power → Float → Float
out_power p t = one_f ⊖ powi p (one_f ⊖ t)

-- `2.0 * t * t ..` below a half, and `1.0 - powi(-2.0 * t + 2.0, p) / 2.0` from there
abbrev pub in_out_power : Power → Float → Float
in_out_power p t = cond (lt t half_f) (times_t p (lead_of p ⊗ t) t) (one_f ⊖ powi p (neg two_f ⊗ t ⊕ two_f) ⊘ two_f)

-- "Facts needed for several powers .. are proved once over the power": how large the curves are
abbrev pub InPowerMost : Type 0
InPowerMost = (p : Power) (t : Float) → Within t → AtMost 1 (in_power p t)

abbrev pub OutPowerMost : Type 0
OutPowerMost = (p : Power) (t : Float) → Within t → AtMost 2 (out_power p t)

abbrev pub InOutPowerMost : Type 0
InOutPowerMost = (p : Power) (t : Float) → Within t → AtMost 16 (in_out_power p t)
