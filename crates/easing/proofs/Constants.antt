-- The parameters in `all_named` and the limit of a power are the f32 nearest to their decimals. Assumes nothing.
use mathlib.Core.Path.{◌≡◌, refl}
use mathlib.Core.Bool.{false}
use lib.Ieee.{binary32, round, of_bits}
use Rattle.math.specs.Rounded.{f32}
use Rattle.easing.specs.Params.{limit_f}

pub constants : (f32 0x3e80_0000 ≡ round binary32 false 25 100)
    × (f32 0x3dcc_cccd ≡ round binary32 false 1 10)
    × (f32 0x3f33_3333 ≡ round binary32 false 7 10)
    × (limit_f ≡ round binary32 false 1024 1)
unfolding round of_bits
constants = (refl, refl, refl, refl)
