-- Document 01, "Easing" and "Order of the port": clamp, max with 0, the size without its sign, and which floats are finite.
use Rattle.std.specs.Prelude.{◌≡◌, ℕ, ◌*◌, ◌≤◌, Bool, true, false, cond, ◌&&◌, T, is_nan, Float}
use Rattle.std.specs.Float.{nan, inf, fin}
use Rattle.std.specs.Float.Ieee.{up, down, neg, lt, le}
use Rattle.math.specs.Rounded.{◌⊕◌, ◌⊖◌, ◌⊗◌, zero_f, half_f, one_f, two_f, top_f}

-- "Clamping keeps a zero's sign": what lies from lo to hi stays as it is; a NaN stays one
abbrev pub clamp_of : Float → Float → Float → Float
clamp_of x lo hi = cond (lt x lo) lo (cond (lt hi x) hi x)

-- "clamped to 0..1, infinities too"
abbrev pub clamp01_of : Float → Float
clamp01_of x = clamp_of x zero_f one_f

-- from 0 to 1
abbrev pub Within : Float → Type 0
Within x = T (le zero_f x) × T (le x one_f)

-- what is clamped is from lo to hi, and from 0 to 1
abbrev pub ClampBetween : Type 0
ClampBetween = (x lo hi : Float) → is_nan x ≡ false → T (le lo hi) → T (le lo (clamp_of x lo hi)) × T (le (clamp_of x lo hi) hi)

abbrev pub Clamped : Type 0
Clamped = (x : Float) → is_nan x ≡ false → Within (clamp01_of x)

-- "max with 0 gives +0 for either zero, and 0 for NaN"
abbrev pub max_zero_of : Float → Float
max_zero_of x = cond (lt zero_f x) x zero_f

-- it is from 0 up
abbrev pub MaxZeroUp : Type 0
MaxZeroUp = (x : Float) → T (le zero_f (max_zero_of x))

-- "size without sign": a NaN stays one
abbrev pub size_of : Float → Float
size_of nan = nan
size_of (inf s) = inf false
size_of (fin s m e) = fin false m e

-- neither a NaN nor an infinity
abbrev pub is_finite : Float → Bool
is_finite nan = false
is_finite (inf s) = false
is_finite (fin s m e) = true

-- "values finite, at most 16,777,216 in size": no NaN is at most anything
abbrev pub is_value : Float → Bool
is_value x = le (size_of x) top_f

-- from lo to hi, as numbers: a zero of either sign is 0
abbrev pub is_between : Float → Float → Float → Bool
is_between lo hi x = le lo x && le x hi

-- finite, and at most n in size. `fin s m e` has the size m * up e / down e
abbrev pub AtMost : ℕ → Float → Type 0
AtMost n nan = ⊥
AtMost n (inf s) = ⊥
AtMost n (fin s m e) = m * up e ≤ n * down e

-- the square root, "each use of it is shown to stay in that range": of 1 - y·y, for a y at most 1 in size
abbrev pub UnderRoot : Type 0
UnderRoot = (y : Float) → AtMost 1 y → Within (one_f ⊖ y ⊗ y)

-- so are the y's of the circular curves: t, t - 1, 2·t below a half, and -2·t + 2 from a half on
abbrev pub LessOne : Type 0
LessOne = (t : Float) → Within t → AtMost 1 (t ⊖ one_f)

abbrev pub Doubled : Type 0
Doubled = (t : Float) → Within t → lt t half_f ≡ true → AtMost 1 (two_f ⊗ t)

abbrev pub Turned : Type 0
Turned = (t : Float) → Within t → lt t half_f ≡ false → AtMost 1 (neg two_f ⊗ t ⊕ two_f)
