-- Document 01, "Easing": SlowMo, slow in the middle. The formulas and their order are those of `easing.rs`.
use Rattle.std.specs.Prelude.{cond, Float}
use Rattle.std.specs.Float.Ieee.{lt, le}
use Rattle.math.specs.Rounded.{◌⊕◌, ◌⊖◌, ◌⊗◌, ◌⊘◌, zero_f, half_f, one_f, epsilon_f}
use Rattle.math.specs.Range.{clamp01_of, max_zero_of}

-- the middle goes from `from` to `to` and is lr wide; `mid` and `edge` are the slopes in it and beside it
abbrev pub slow_part : Float → Float → Float → Float → Float → Float → Float
slow_part t lr from to mid edge =
    cond (lt t from) (t ⊗ edge) (cond (lt to t) (from ⊗ edge ⊕ lr ⊗ mid ⊕ (t ⊖ to) ⊗ edge) (from ⊗ edge ⊕ (t ⊖ from) ⊗ mid))

-- 1 where the edges are at most 2 ^ -23 wide
abbrev pub edge_of : Float → Float → Float
edge_of lr mid = cond (lt epsilon_f (one_f ⊖ lr)) ((one_f ⊖ mid ⊗ lr) ⊘ (one_f ⊖ lr)) one_f

abbrev pub mid_of : Float → Float → Float
mid_of lr p = one_f ⊘ (one_f ⊕ p ⊗ (one_f ⊖ lr))

abbrev pub from_of : Float → Float
from_of lr = (one_f ⊖ lr) ⊗ half_f

-- a straight line where the ratio is 1
abbrev pub slow_at : Float → Float → Float → Float
slow_at t lr p = cond (le one_f lr) t (slow_part t lr (from_of lr) (from_of lr ⊕ lr) (mid_of lr p) (edge_of lr (mid_of lr p)))

-- 0 and 1 at the ends; the ratio is clamped, and the power is max with 0
abbrev pub slow_mo : Float → Float → Float → Float
slow_mo t ratio power = cond (le t zero_f) zero_f (cond (le one_f t) one_f (slow_at t (clamp01_of ratio) (max_zero_of power)))
