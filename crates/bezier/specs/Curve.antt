-- Document 01, "Easing": "Formulas, constants and order of operations are those of source document 000". The cubic Bezier curve in one coordinate, from 0 to 1 with the control points a1 and a2 between, and its derivative.
use Rattle.std.specs.Prelude.{Float}
use Rattle.math.specs.Rounded.{◌⊕◌, ◌⊖◌, ◌⊗◌, f32, one_f, two_f}

-- 3
abbrev pub three_f : Float
three_f = f32 0x4040_0000

-- the source's c, b and a: the curve is a t^3 + b t^2 + c t
abbrev pub coef_c : Float → Float
coef_c a1 = three_f ⊗ a1

abbrev pub coef_b : Float → Float → Float
coef_b a1 a2 = three_f ⊗ (a2 ⊖ a1) ⊖ coef_c a1

abbrev pub coef_a : Float → Float → Float
coef_a a1 a2 = one_f ⊖ coef_c a1 ⊖ coef_b a1 a2

-- the source's `sample_cubic`
unfoldable pub sample_cubic_of : Float → Float → Float → Float
sample_cubic_of a1 a2 t = ((coef_a a1 a2 ⊗ t ⊕ coef_b a1 a2) ⊗ t ⊕ coef_c a1) ⊗ t

-- the source's `sample_cubic_derivative`
unfoldable pub sample_cubic_derivative_of : Float → Float → Float → Float
sample_cubic_derivative_of a1 a2 t = (three_f ⊗ coef_a a1 a2 ⊗ t ⊕ two_f ⊗ coef_b a1 a2) ⊗ t ⊕ coef_c a1
