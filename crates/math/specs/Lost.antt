-- Document 01, "Step lost", as request 5 corrects it: "The lost step rule was too kind".
use Rattle.std.specs.Prelude.{◌≡◌, ℕ, ◌+◌, ◌≤◌, Bool, false, ◌||◌, T, Float}
use Rattle.std.specs.Float.Ieee.{lt, eq}
use Rattle.math.specs.Rounded.{◌⊕◌, ◌⊖◌, ◌⊗◌, f32}
use Rattle.math.specs.Range.{size_of}
use Rattle.math.specs.Whole.{Is}

-- 0.125
abbrev pub eighth_f : Float
eighth_f = f32 0x3e00_0000

-- "that the sum less the old number, in f32, differ from what was to be added by more than an eighth of that, the eighth in f32 too"
abbrev pub is_off : Float → Float → Float → Bool
is_off old add sum = lt (add ⊗ eighth_f) (size_of (sum ⊖ old ⊖ add))

-- `add` is lost in `sum`, the rounded sum of `old` and `add`: the sum equals the old number, for "what was refused stays refused", or is off
abbrev pub lost_by : Float → Float → Float → Bool
lost_by old add sum = eq sum old || is_off old add sum

-- "what was refused stays refused"
abbrev pub StillLost : Type 0
StillLost = (old add sum : Float) → T (eq sum old) → T (lost_by old add sum)

-- of whole numbers whose sum is at most 16,777,216, where something is added, nothing is lost
abbrev pub WholeKept : Type 0
WholeKept = (old add : Float) (a b : ℕ) → Is old a → Is add b → 1 ≤ b → a + b ≤ 16777216 → lost_by old add (old ⊕ add) ≡ false
