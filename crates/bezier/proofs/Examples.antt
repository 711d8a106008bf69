-- The definitions, computed: each constant is the f32 nearest to its decimal, and four answers with what the search found for them. Assumes nothing.
use mathlib.Core.Path.{◌≡◌, refl}
use mathlib.Core.Bool.{true, false}
use lib.Ieee.{binary32, round, add, sub, mul, div, neg, lt, eq, of_bits}
use Rattle.math.specs.Rounded.{f32, zero_f, half_f, one_f}
use Rattle.bezier.specs.Curve.{three_f, sample_cubic_of, sample_cubic_derivative_of}
use Rattle.bezier.specs.Search.{tiny_f, turn_of, bisect_of, newton_of}
use Rattle.bezier.specs.Bezier.{solution_of, cubic_bezier}

pub constants : (tiny_f ≡ round binary32 false 1 1000000) × (three_f ≡ round binary32 false 3 1)
unfolding round of_bits
constants = (refl, refl)

-- CubicBezier(0, 0, 1, 1) and CubicBezier(0.25, 0.1, 0.25, 1) at 0.5, and CubicBezier(1, 0, 0, 1) at 0.45 and at 0.5000134: near at t, near after four Newton steps, not near after all steps and bisections, and near at the last bisection behind a flat first step, with a y that is 4.6e-4 too low
pub examples : (cubic_bezier half_f zero_f zero_f one_f one_f ≡ half_f)
    × (solution_of half_f zero_f one_f ≡ record { u = half_f; settled = true; xs = 1; derivatives = 0 })
    × (cubic_bezier half_f (f32 0x3e80_0000) (f32 0x3dcc_cccd) (f32 0x3e80_0000) one_f ≡ f32 0x3f4d_6a4f)
    × (solution_of half_f (f32 0x3e80_0000) (f32 0x3e80_0000) ≡ record { u = f32 0x3f33_172e; settled = true; xs = 5; derivatives = 4 })
    × (cubic_bezier (f32 0x3ee6_6666) one_f zero_f zero_f one_f ≡ f32 0x3e34_c5b3)
    × (solution_of (f32 0x3ee6_6666) one_f zero_f ≡ record { u = f32 0x3e89_0666; settled = false; xs = 16; derivatives = 6 })
    × (cubic_bezier (f32 0x3f00_00e1) one_f zero_f zero_f one_f ≡ f32 0x3f05_a0de)
    × (solution_of (f32 0x3f00_00e1) one_f zero_f ≡ record { u = f32 0x3f03_c0da; settled = true; xs = 11; derivatives = 1 })
unfolding cubic_bezier solution_of newton_of bisect_of turn_of sample_cubic_of sample_cubic_derivative_of add sub mul div neg lt eq round of_bits
examples = (refl, refl, refl, refl, refl, refl, refl, refl)
