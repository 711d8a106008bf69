-- Document 01, "Easing": "Steps: 0 at t = 0; else ceil(t·n)/n, n at least 1, clamped. W3C's jump-end takes floor."
use Rattle.std.specs.Prelude.{◌≡◌, ℕ, ◌+◌, ◌-◌, ◌*◌, ◌/◌, ◌%◌, ◌≤◌, max, Bool, true, false, cond, ◌==◌, Float}
use Rattle.std.specs.Float.{nan, inf, fin}
use Rattle.std.specs.Float.Ieee.{up, down, neg, eq}
use Rattle.math.specs.Rounded.{◌⊗◌, ◌⊘◌, whole_f, zero_f}
use Rattle.math.specs.Range.{clamp01_of, Within}
use Rattle.math.specs.Whole.{ceil_of}

-- the number of steps as a float, at least 1
abbrev pub count_of : ℕ → Float
count_of n = whole_f (max n 1)

-- for c steps
abbrev pub stairs_of : Float → Float → Float
stairs_of t c = clamp01_of (ceil_of (t ⊗ c) ⊘ c)

abbrev pub steps_of : Float → ℕ → Float
steps_of t n = cond (eq t zero_f) zero_f (stairs_of t (count_of n))

-- the largest whole number that is not above x, for W3C's jump-end. `fin s m e` has the size m * up e / down e
abbrev pub floor_of : Float → Float
floor_of nan = nan
floor_of (inf s) = inf s
floor_of (fin false m e) = whole_f (m * up e / down e)
floor_of (fin true m e) = neg (whole_f ((m * up e + (down e - 1)) / down e))

-- W3C's steps(n, jump-end), of the rounded product
abbrev pub jump_end_of : Float → ℕ → Float
jump_end_of t n = floor_of (t ⊗ count_of n) ⊘ count_of n

-- whether x is a whole number
abbrev pub is_whole : Float → Bool
is_whole nan = false
is_whole (inf s) = false
is_whole (fin s m e) = m * up e % down e == 0

-- "The two agree exactly where the rounded product t·n is whole": at each t from 0 to 1 and each n that is not refused
abbrev pub StepsJumpEnd : Type 0
StepsJumpEnd = (t : Float) (n : ℕ) → Within t → n ≤ 65536 → eq (steps_of t n) (jump_end_of t n) ≡ is_whole (t ⊗ count_of n)
