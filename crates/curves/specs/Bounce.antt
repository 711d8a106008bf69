-- Document 01, "Easing": the three Bounce curves, and CustomBounce. The formulas and constants are those of `easing.rs`.
use Rattle.std.specs.Prelude.{cond, Float}
use Rattle.std.specs.Float.Ieee.{lt, le}
use Rattle.math.specs.Rounded.{◌⊕◌, ◌⊖◌, ◌⊗◌, ◌⊘◌, f32, zero_f, half_f, one_f, two_f}
use Rattle.math.specs.Range.{clamp01_of}

-- 7.5625
abbrev pub bounce_n1 : Float
bounce_n1 = f32 0x40f2_0000

-- 2.75
abbrev pub bounce_d1 : Float
bounce_d1 = f32 0x4030_0000

-- an arc around its middle, up to the height h
abbrev pub arc_of : Float → Float → Float
arc_of u h = bounce_n1 ⊗ u ⊗ u ⊕ h

-- the arcs end at 1, 2 and 2.5 parts of 2.75; the middles are at 1.5, 2.25 and 2.625, the heights 0.75, 0.9375 and 0.984375
abbrev pub out_bounce : Float → Float
out_bounce t =
    cond (lt t (one_f ⊘ bounce_d1)) (bounce_n1 ⊗ t ⊗ t)
    (cond (lt t (two_f ⊘ bounce_d1)) (arc_of (t ⊖ f32 0x3fc0_0000 ⊘ bounce_d1) (f32 0x3f40_0000))
    (cond (lt t (f32 0x4020_0000 ⊘ bounce_d1)) (arc_of (t ⊖ f32 0x4010_0000 ⊘ bounce_d1) (f32 0x3f70_0000))
    (arc_of (t ⊖ f32 0x4028_0000 ⊘ bounce_d1) (f32 0x3f7c_0000))))

abbrev pub in_bounce : Float → Float
in_bounce t = one_f ⊖ out_bounce (one_f ⊖ t)

abbrev pub in_out_bounce : Float → Float
in_out_bounce t =
    cond (lt t half_f) ((one_f ⊖ out_bounce (one_f ⊖ two_f ⊗ t)) ⊘ two_f)
    ((one_f ⊕ out_bounce (two_f ⊗ t ⊖ one_f)) ⊘ two_f)

-- between the straight line and the bounce, at a strength s
abbrev pub mix_of : Float → Float → Float
mix_of t s = t ⊗ (one_f ⊖ s) ⊕ out_bounce t ⊗ s

-- 0 and 1 at the ends; the strength is clamped
abbrev pub custom_bounce : Float → Float → Float
custom_bounce t strength = cond (le t zero_f) zero_f (cond (le one_f t) one_f (mix_of t (clamp01_of strength)))
