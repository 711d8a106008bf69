-- Document 01, "Easing": "Formulas, constants and order of operations are those of source document 000". The three circular curves.
use Rattle.std.specs.Prelude.{cond, Float}
use Rattle.std.specs.Float.Ieee.{lt, neg}
use Rattle.math.specs.Rounded.{◌⊕◌, ◌⊖◌, ◌⊗◌, ◌⊘◌, half_f, one_f, two_f}
use Rattle.curves.specs.Root.{sqrt_of}

-- sqrt(1.0 - y * y); the source's powi(y, 2) is y * y
abbrev pub circle_of : Float → Float
circle_of y = sqrt_of (one_f ⊖ y ⊗ y)

-- ease_in_circ
unfoldable pub in_circ : Float → Float
in_circ t = one_f ⊖ circle_of t

-- ease_out_circ
unfoldable pub out_circ : Float → Float
out_circ t = circle_of (t ⊖ one_f)

-- ease_in_out_circ
unfoldable pub in_out_circ : Float → Float
in_out_circ t = cond (lt t half_f) ((one_f ⊖ circle_of (two_f ⊗ t)) ⊘ two_f) ((circle_of (neg two_f ⊗ t ⊕ two_f) ⊕ one_f) ⊘ two_f)
