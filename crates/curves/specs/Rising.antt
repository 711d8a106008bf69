-- Request 6: what holds of W3C's steps, over the position, and how `Steps` stands beside them. n is from the position's least to 65,536, and t from 0 to 1.
use Rattle.std.specs.Prelude.{◌≡◌, ℕ, ◌-◌, ◌≤◌, max, Bool, true, false, T, Float}
use Rattle.std.specs.Float.Ieee.{le, eq}
use Rattle.math.specs.Rounded.{◌⊘◌, whole_f, zero_f, one_f}
use Rattle.math.specs.Range.{Within}
use Rattle.curves.specs.Stairs.{steps_of, is_whole}
use Rattle.curves.specs.Jumps.{product_of, jumps_of, current_of, step_of, jump_of, least_of}
use Rattle.curves.specs.declared.jumps.Position.{Position}
use Rattle.curves.specs.declared.jumps.Position.TheVariants.{JumpStart, JumpEnd, JumpBoth, JumpNone}

-- "Prove the shared rule, on whole step numbers, once over the position": the step is from 0 to jumps,
abbrev pub StepWithin : Type 0
StepWithin = (p : Position) (before : Bool) (n floor : ℕ) (whole : Bool) → current_of p before n floor whole ≤ jumps_of p n

-- and never falls as the product grows: its whole part grows, or stays, and then the larger product is whole only where both are
abbrev pub StepRises : Type 0
StepRises =
    (p : Position) (before : Bool) (n floor next : ℕ) (whole then : Bool) → floor ≤ next → (floor ≡ next → then ≡ true → whole ≡ true)
    → current_of p before n floor whole ≤ current_of p before n next then

-- so the step never falls as t grows,
abbrev pub ProgressRises : Type 0
ProgressRises = (p : Position) (before : Bool) (t u : Float) (n : ℕ) → Within t → Within u → n ≤ 65536 → T (le t u) → step_of p before t n ≤ step_of p before u n

-- nor does the value, which is from 0 to 1
abbrev pub JumpRises : Type 0
JumpRises =
    (p : Position) (before : Bool) (t u : Float) (n : ℕ) → Within t → Within u → least_of p ≤ n → n ≤ 65536 → T (le t u)
    → T (le (jump_of p before t n) (jump_of p before u n))

abbrev pub JumpWithin : Type 0
JumpWithin = (p : Position) (before : Bool) (t : Float) (n : ℕ) → least_of p ≤ n → n ≤ 65536 → Within (jump_of p before t n)

-- the ends: how many steps up it is at 0, and with the flag set at 1
abbrev pub first_of : Position → ℕ
first_of JumpStart = 1
first_of JumpEnd = 0
first_of JumpBoth = 1
first_of JumpNone = 0

abbrev pub last_of : Position → ℕ → ℕ
last_of JumpStart n = n
last_of JumpEnd n = n - 1
last_of JumpBoth n = n
last_of JumpNone n = n - 1

-- with the flag off it is 1 at 1, and with the flag set 0 at 0
abbrev pub JumpEnds : Type 0
JumpEnds =
    (p : Position) (n : ℕ) → least_of p ≤ n → n ≤ 65536
    → (jump_of p false zero_f n ≡ whole_f (first_of p) ⊘ whole_f (jumps_of p n))
    × (jump_of p false one_f n ≡ one_f)
    × (jump_of p true zero_f n ≡ zero_f)
    × (jump_of p true one_f n ≡ whole_f (last_of p n) ⊘ whole_f (jumps_of p n))

-- `Steps` is jump-start with the flag set, bit for bit. 0 counts as 1 in `Steps`
abbrev pub StepsJumpStart : Type 0
StepsJumpStart = (t : Float) (n : ℕ) → Within t → n ≤ 65536 → steps_of t n ≡ jump_of JumpStart true t (max n 1)

-- "Where the rounded product t·n is whole and the flag is off, jump-end and `Steps` agree", bit for bit; document 01, "exactly where": elsewhere they are not equal
abbrev pub StepsOnJumpEnd : Type 0
StepsOnJumpEnd =
    (t : Float) (n : ℕ) → Within t → n ≤ 65536
    → (is_whole (product_of t (max n 1)) ≡ true → steps_of t n ≡ jump_of JumpEnd false t (max n 1))
    × (is_whole (product_of t (max n 1)) ≡ false → eq (steps_of t n) (jump_of JumpEnd false t (max n 1)) ≡ false)
