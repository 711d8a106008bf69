-- Document 01, "Easing": the three Back curves. The formulas and constants are those of `easing.rs`.
use Rattle.std.specs.Prelude.{cond, Float}
use Rattle.std.specs.Float.Ieee.{lt}
use Rattle.math.specs.Rounded.{◌⊕◌, ◌⊖◌, ◌⊗◌, ◌⊘◌, f32, half_f, one_f, two_f}
use Rattle.curves.specs.Powers.{quad, powi}

-- 1.70158
abbrev pub back_c1 : Float
back_c1 = f32 0x3fd9_cd60

-- 1.70158 times 1.525, one rounded product
abbrev pub back_c2 : Float
back_c2 = f32 0x4026_12ff

-- 1.70158 and 1, one rounded sum
abbrev pub back_c3 : Float
back_c3 = f32 0x402c_e6b0

abbrev pub in_back : Float → Float
in_back t = back_c3 ⊗ t ⊗ t ⊗ t ⊖ back_c1 ⊗ t ⊗ t

-- at u = t - 1
abbrev pub out_back_at : Float → Float
out_back_at u = one_f ⊕ back_c3 ⊗ u ⊗ u ⊗ u ⊕ back_c1 ⊗ u ⊗ u

abbrev pub out_back : Float → Float
out_back t = out_back_at (t ⊖ one_f)

abbrev pub in_out_back : Float → Float
in_out_back t =
    cond (lt t half_f) (powi quad (two_f ⊗ t) ⊗ ((back_c2 ⊕ one_f) ⊗ two_f ⊗ t ⊖ back_c2) ⊘ two_f)
    ((powi quad (two_f ⊗ t ⊖ two_f) ⊗ ((back_c2 ⊕ one_f) ⊗ (two_f ⊗ t ⊖ two_f) ⊕ back_c2) ⊕ two_f) ⊘ two_f)
