-- What the text of a ramp comes to.
use Rattle.std.specs.Prelude.{◌≡◌, true, Result, Ok, Err}
use Rattle.tween.specs.declared.record.Tween.{Tween}
use Rattle.tween.specs.Limits.{within_of}
use Rattle.tween.specs.Calls.{reset_of}
use Rattle.lines.specs.declared.expected.Fault.{Fault}

-- a ramp within its limits is just reset, as demand 3 has it of the tween that a history begins with
abbrev pub IsReset : Result Tween Fault → Type 0
IsReset (Ok u) = within_of u ≡ true → (t : Tween) × (reset_of t ≡ Ok u)
IsReset (Err f) = Unit {0}
