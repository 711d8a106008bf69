-- Floats from 0 to 16,777,216: the times of frames, and what stays among them. Assumes nothing.
use mathlib.Core.Path.{◌≡◌, refl, subst⁻¹}
use mathlib.Core.Bool.{true, false}
use Prim.Native.Nat.{ℕ, ◌*◌, ◌≤◌}
use native.Mathlib.Omega.{arith}
use lib.Dec.{T, lit≤, le→leb}
use lib.Ieee.{Float, nan, inf, fin, binary32, up, down, lt, le, eq, of_bits}
use lib.Ieee.Bits.{is_true}
use denote.Floats.{passes as holds}
use Rattle.math.specs.Rounded.{◌⊗◌, zero_f, top_f}
use Rattle.math.specs.Range.{is_finite, is_between, Within, AtMost}
use Rattle.math.proofs.Choice.{and_both}
use Rattle.math.proofs.Order.{le-sizes, le-lt-chain}
use Rattle.math.proofs.Upward.{Up, mul-up}
use Rattle.math.proofs.Sizes.{up_to, at-most-finite}
use Rattle.math.proofs.Bounded.{shrunk, top-is}
use Rattle.math.proofs.Ranges.{within-at-most, within-finite}
use Rattle.frames.specs.Limits.{is_plus, is_time}
use Rattle.frames.proofs.Rising.{time-top}
use Rattle.math.proofs.Beneath.{at-most-le}

-- from 0 to 16,777,216
abbrev pub Clock : Float → Type 0
Clock x = Up x × T (le x top_f)

pub clock-most : (x : Float) → Clock x → AtMost 16777216 x
clock-most x c = up_to 16777216 x top_f top-is c.0 c.1

pub clock-finite : (x : Float) → Clock x → T (is_finite x)
clock-finite x c = at-most-finite 16777216 x (clock-most x c)

-- as a test
pub clock-test : (x : Float) → Clock x → is_between zero_f top_f x ≡ true
clock-test x c = rw (is_true (le zero_f x) c.0, is_true (le x top_f) c.1)

pub test-clock : (x : Float) → is_between zero_f top_f x ≡ true → Clock x
test-clock x h =
    let b = and_both (le zero_f x) (le x top_f) h in
    (holds (le zero_f x) b.0, holds (le x top_f) b.1)

-- a frame's time
plus-up : (x : Float) → is_plus x ≡ true → T (le x top_f) → Up x
unfolding le lt eq of_bits
plus-up nan p h = absurd h
plus-up (inf true) p h = absurd (holds false p)
plus-up (inf false) p h = tt
plus-up (fin true m e) p h = absurd (holds false p)
plus-up (fin false m e) p h = subst⁻¹ T (le-sizes false false (0 * 1 * down e) (m * up e * 1)) (le→leb (0 * 1 * down e) (m * up e * 1) (least (m * up e) (down e)))
  where
    least : (a d : ℕ) → 0 * 1 * d ≤ a * 1
    least a d = omega arith

pub time-clock : (x : Float) → is_time x ≡ true → Clock x
unfolding is_time
time-clock x h = (plus-up x (and_both (is_plus x) (le x top_f) h).0 (time-top x h), time-top x h)

-- a time after one from 0 on
plus-above : (t : Float) → T (lt zero_f t) → is_plus t ≡ true
unfolding lt of_bits
plus-above nan h = absurd h
plus-above (inf true) h = absurd h
plus-above (inf false) h = refl
plus-above (fin true m e) h = absurd h
plus-above (fin false m e) h = refl

pub later-time : (p t : Float) → Up p → T (lt p t) → T (le t top_f) → is_time t ≡ true
unfolding is_time
later-time p t u h m = rw (plus-above t (le-lt-chain zero_f p t u h), is_true (le t top_f) m)

-- a part of it
pub shrunk-clock : (x p : Float) → Clock x → Within p → Clock (x ⊗ p)
shrunk-clock x p c w =
    let u = mul-up binary32 x p (clock-finite x c) (within-finite p w) c.0 w.0 in
    (u, at-most-le 16777216 (x ⊗ p) top_f top-is (shrunk 16777216 (lit≤ tt) x p (clock-most x c) (within-at-most p w)))
