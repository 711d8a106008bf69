-- What the inner step of a square root promises. It is the code's: document 01 has none of it.
use Rattle.std.specs.Prelude.{ℕ, ◌*◌, ◌^◌, false, Float}
use Rattle.std.specs.Float.Ieee.Exact.{HasValue}
use Rattle.curves.specs.Root.{Root}

-- r is the root of sig * 2 ^ place smallest values, 2 ^ -149 each
abbrev pub RootOf : ℕ → ℕ → Float → Type 0
RootOf sig place r = (x : Float) → HasValue x false (sig * 2 ^ place) (2 ^ 149) → Root x r
