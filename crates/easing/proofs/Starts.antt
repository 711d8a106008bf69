-- Every easing, at every parameter, starts at 0: what its curve answers at +0 equals 0. Assumes nothing.
use Rattle.std.specs.Prelude.{Option, None, Some}
use mathlib.Core.Path.{◌≡◌, refl}
use mathlib.Core.Bool.{Bool, true}
use lib.Ieee.{Float, add, sub, mul, div, neg, lt, le, eq, of_int, of_bits}
use Rattle.math.specs.Rounded.{zero_f}
use Rattle.curves.specs.Root.{root_from, sqrt_of}
use Rattle.curves.specs.Circ.{in_circ, out_circ, in_out_circ}
use Rattle.bezier.specs.Bezier.{solution_of, cubic_bezier}
use Rattle.easing.specs.Kinds.{curve_of}
use Rattle.easing.specs.Params.{with_params}
use Rattle.easing.specs.declared.kinds.Easing.{Easing}
use Rattle.easing.proofs.Tags.{every-kind}

abbrev pub Starts : Option (Float → Float) → Type 0
Starts None = Unit {0}
Starts (Some f) = eq (f zero_f) zero_f ≡ true

-- the same as a test
abbrev starts_at_zero : Option (Float → Float) → Bool
starts_at_zero None = true
starts_at_zero (Some f) = eq (f zero_f) zero_f

tested : (c : Option (Float → Float)) → starts_at_zero c ≡ true → Starts c
tested None h = tt
tested (Some f) h = h

each-starts : (e : Easing) → starts_at_zero (curve_of e) ≡ true
unfolding curve_of with_params add sub mul div neg lt le eq of_int of_bits sqrt_of root_from in_circ out_circ in_out_circ cubic_bezier solution_of
each-starts = every-kind (λ e. starts_at_zero (curve_of e)) (λ p. refl)

pub starts : (e : Easing) → Starts (curve_of e)
starts e = tested (curve_of e) (each-starts e)
