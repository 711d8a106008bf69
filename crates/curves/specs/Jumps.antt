-- Request 6, "The four W3C step positions": CSS Easing Functions Level 1, "Step easing functions", line by line, at an input progress value from 0 to 1. The steps are whole numbers.
use Rattle.std.specs.Prelude.{ℕ, ◌+◌, ◌-◌, min, Bool, cond, ◌&&◌, Float}
use Rattle.math.specs.Rounded.{◌⊗◌, ◌⊘◌, whole_f}
use Rattle.math.specs.Whole.{whole_part_of}
use Rattle.curves.specs.Stairs.{is_whole}
use Rattle.curves.specs.declared.jumps.Position.{Position}
use Rattle.curves.specs.declared.jumps.Position.TheVariants.{JumpStart, JumpEnd, JumpBoth, JumpNone}

-- "input progress value × steps": rounded once
abbrev pub product_of : Float → ℕ → Float
product_of t n = t ⊗ whole_f n

-- "If the step position property is one of: jump-start, jump-both, increment current step by one"
abbrev pub raised_of : Position → ℕ → ℕ
raised_of JumpStart step = step + 1
raised_of JumpEnd step = step
raised_of JumpBoth step = step + 1
raised_of JumpNone step = step

-- "If both of the following conditions are true, decrement current step by one: the before flag is set, input progress value × steps mod 1 equals zero". "If .. current step < 0, let current step be zero": a difference of these numbers is not below 0
abbrev pub lowered_of : Bool → Bool → ℕ → ℕ
lowered_of before whole step = cond (before && whole) (step - 1) step

-- "Calculate jumps based on the step position"
abbrev pub jumps_of : Position → ℕ → ℕ
jumps_of JumpStart steps = steps
jumps_of JumpEnd steps = steps
jumps_of JumpBoth steps = steps + 1
jumps_of JumpNone steps = steps - 1

-- "If .. current step > jumps, let current step be jumps"
abbrev pub cut_of : ℕ → ℕ → ℕ
cut_of step jumps = min step jumps

-- the current step in the end, from floor(input progress value × steps), and whether that product is whole
abbrev pub current_of : Position → Bool → ℕ → ℕ → Bool → ℕ
current_of p before steps floor whole = cut_of (lowered_of before whole (raised_of p floor)) (jumps_of p steps)

-- "Calculate the current step as floor(input progress value × steps)", and on
abbrev pub step_of : Position → Bool → Float → ℕ → ℕ
step_of p before t n = current_of p before n (whole_part_of (product_of t n)) (is_whole (product_of t n))

-- "The output progress value is current step / jumps"
unfoldable pub jump_of : Position → Bool → Float → ℕ → Float
jump_of p before t n = whole_f (step_of p before t n) ⊘ whole_f (jumps_of p n)

-- "Refusals: in the new family 3 also for n = 0, and for jump-none with n = 1": the smallest n
abbrev pub least_of : Position → ℕ
least_of JumpStart = 1
least_of JumpEnd = 1
least_of JumpBoth = 1
least_of JumpNone = 2
