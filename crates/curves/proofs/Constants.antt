-- Each constant of the curves is the f32 nearest to its decimal, and each constant made of others is their rounded product or sum. Assumes nothing.
use Rattle.std.proofs.Common.{◌≡◌, false, refl}
use lib.Ieee.{binary32, round, add, mul, of_bits}
use Rattle.math.specs.Rounded.{◌⊕◌, ◌⊗◌, f32, one_f}
use Rattle.curves.specs.Powers.{quad, cubic, quart, quint, lead_of}
use Rattle.curves.specs.Back.{back_c1, back_c2, back_c3}
use Rattle.curves.specs.Bounce.{bounce_n1, bounce_d1}

pub constants : (lead_of quad ≡ round binary32 false 2 1)
    × (lead_of cubic ≡ round binary32 false 4 1)
    × (lead_of quart ≡ round binary32 false 8 1)
    × (lead_of quint ≡ round binary32 false 16 1)
    × (back_c1 ≡ round binary32 false 170158 100000)
    × (back_c2 ≡ back_c1 ⊗ round binary32 false 1525 1000)
    × (back_c3 ≡ back_c1 ⊕ one_f)
    × (bounce_n1 ≡ round binary32 false 75625 10000)
    × (bounce_d1 ≡ round binary32 false 275 100)
    × (f32 0x3fc0_0000 ≡ round binary32 false 15 10)
    × (f32 0x4010_0000 ≡ round binary32 false 225 100)
    × (f32 0x4020_0000 ≡ round binary32 false 25 10)
    × (f32 0x4028_0000 ≡ round binary32 false 2625 1000)
    × (f32 0x3f40_0000 ≡ round binary32 false 75 100)
    × (f32 0x3f70_0000 ≡ round binary32 false 9375 10000)
    × (f32 0x3f7c_0000 ≡ round binary32 false 984375 1000000)
unfolding round add mul of_bits
constants = (refl, refl, refl, refl, refl, refl, refl, refl, refl, refl, refl, refl, refl, refl, refl, refl)
