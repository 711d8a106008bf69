-- Document 01, "Order of the port": "ceil, whole part as u32 with its cap". `fin s m e` has the size m * up e / down e.
use Rattle.std.specs.Prelude.{◌≡◌, ℕ, ◌+◌, ◌-◌, ◌*◌, ◌/◌, ◌^◌, ◌<◌, ◌≤◌, true, false, pos, ◌==◌, nat_le, nat_lt, Float}
use Rattle.std.specs.Float.{nan, inf, fin, Format}
use Rattle.std.specs.Float.Ieee.{prec, up, down, add, sub, mul, neg, lt, le, eq, of_int, to_unsigned}
use Rattle.std.specs.Float.Ieee.Exact.{HasValue}
use Rattle.math.specs.Rounded.{whole_f}

-- the least whole number that is not below x; what is not above 0 keeps its sign, so that -0.5 gives -0; a NaN and the infinities stay
abbrev pub ceil_of : Float → Float
ceil_of nan = nan
ceil_of (inf s) = inf s
ceil_of (fin false m e) = whole_f ((m * up e + (down e - 1)) / down e)
ceil_of (fin true m e) = neg (whole_f (m * up e / down e))

-- what ceil_of takes for the least whole number not below a / d is that: a / d is at most it, and above every whole number below it
abbrev pub CeilingLeast : Type 0
CeilingLeast = (a d : ℕ) → 0 < d → (a ≤ (a + (d - 1)) / d * d) × ((k : ℕ) → k < (a + (d - 1)) / d → k * d < a)

-- the whole part: 0 for a NaN and for what is below 0, and at most 4,294,967,295
abbrev pub whole_part_of : Float → ℕ
whole_part_of x = to_unsigned 32 x

-- x is the whole number n, with its sign clear
abbrev pub Is : Float → ℕ → Type 0
Is x n = HasValue x false n 1

-- "f32 sums, products and subtractions on whole numbers below 2^24 proved exact": up to 2 ^ prec, which is 2 ^ 24 in binary32, a format has each whole number
abbrev pub WholeIs : Type 0
WholeIs = (f : Format) (n : ℕ) → n ≤ 2 ^ prec f → Is (of_int f (pos n)) n

-- so each of the three is the numbers' own where it comes to one of these
abbrev pub AddExact : Type 0
AddExact = (f : Format) (x y : Float) (a b : ℕ) → Is x a → Is y b → a + b ≤ 2 ^ prec f → Is (add f x y) (a + b)

abbrev pub SubExact : Type 0
SubExact = (f : Format) (x y : Float) (a b : ℕ) → Is x a → Is y b → b ≤ a → a - b ≤ 2 ^ prec f → Is (sub f x y) (a - b)

abbrev pub MulExact : Type 0
MulExact = (f : Format) (x y : Float) (a b : ℕ) → Is x a → Is y b → a * b ≤ 2 ^ prec f → Is (mul f x y) (a * b)

-- and so are the comparisons
abbrev pub LtIs : Type 0
LtIs = (x y : Float) (a b : ℕ) → Is x a → Is y b → lt x y ≡ nat_lt a b

abbrev pub EqIs : Type 0
EqIs = (x y : Float) (a b : ℕ) → Is x a → Is y b → eq x y ≡ (a == b)

abbrev pub LeIs : Type 0
LeIs = (x y : Float) (a b : ℕ) → Is x a → Is y b → le x y ≡ nat_le a b
