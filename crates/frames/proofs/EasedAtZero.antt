-- What an easing answers at +0 equals 0, a refusal counting as 0. Assumes nothing.
use mathlib.Core.Path.{◌≡◌, refl}
use mathlib.Core.Bool.{Bool, true, false}
use Rattle.std.specs.Prelude.{Option, Some, None}
use lib.Ieee.{Float, lt, eq, is_nan, of_bits}
use Rattle.math.specs.Rounded.{zero_f}
use Rattle.math.specs.Range.{clamp01_of}
use Rattle.bezier.specs.declared.types.Solved.{Solved}
use Rattle.easing.specs.Kinds.{curve_of}
use Rattle.easing.specs.Params.{params_of, within_of}
use Rattle.easing.specs.Apply.{search_of, eased_at, apply_of}
use Rattle.easing.specs.declared.kinds.Easing.{Easing}
use Rattle.frames.specs.Sampling.{found_in, eased_of}
use Rattle.easing.proofs.Starts.{Starts, starts}

zero-eq : eq zero_f zero_f ≡ true
unfolding eq of_bits
zero-eq = refl

eased-from : (c : Option (Float → Float)) (search : Float → Solved) (fine : Bool) → Starts c → eq (found_in (eased_at c search fine zero_f)).value zero_f ≡ true
eased-from None search fine s = zero-eq
eased-from (Some f) search true s = s
eased-from (Some f) search false s = zero-eq

pub zero-clamped : clamp01_of zero_f ≡ zero_f
unfolding lt of_bits
zero-clamped = refl

pub eased-zero : (e : Easing) → eq (eased_of e zero_f).value zero_f ≡ true
unfolding apply_of is_nan of_bits
eased-zero e = rw zero-clamped (eased-from (curve_of e) (search_of e) (within_of (params_of e)) (starts e))
