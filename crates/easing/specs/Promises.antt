-- Added: what holds of every value that an easing answers.
use Rattle.std.specs.Prelude.{◌≡◌, T, Float, Ok}
use Rattle.math.specs.Range.{is_finite, AtMost}
use Rattle.bezier.specs.declared.types.Found.{Found}
use Rattle.easing.specs.declared.kinds.Easing.{Easing}
use Rattle.easing.specs.Apply.{apply_of}

-- at most 134,217,728 in size
abbrev pub ApplyBounded : Type 0
ApplyBounded = (e : Easing) (t : Float) (f : Found) → apply_of e t ≡ Ok f → AtMost 134217728 f.value

abbrev pub ApplyFinite : Type 0
ApplyFinite = (e : Easing) (t : Float) (f : Found) → apply_of e t ≡ Ok f → T (is_finite f.value)
