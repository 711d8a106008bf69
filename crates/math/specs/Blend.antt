-- Document 01, "The tween" and "The track": how far along a span, and the blend of two values.
use Rattle.std.specs.Prelude.{cond, Float}
use Rattle.std.specs.Float.Ieee.{eq}
use Rattle.math.specs.Rounded.{◌⊕◌, ◌⊖◌, ◌⊗◌, ◌⊘◌, zero_f, one_f}
use Rattle.math.specs.Range.{clamp01_of}

-- how far x is along a span, from 0 to 1; a span of 0 counts as gone through, as in the source
abbrev pub ratio_of : Float → Float → Float
ratio_of x span = cond (eq span zero_f) one_f (clamp01_of (x ⊘ span))

-- "a + (b - a)·c, three roundings"
abbrev pub blend_of : Float → Float → Float → Float
blend_of a b c = a ⊕ (b ⊖ a) ⊗ c
