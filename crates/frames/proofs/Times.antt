-- The times of frames: which zero is one, and which other floats are. Assumes nothing.
use mathlib.Core.Path.{◌≡◌, refl, sym, ap, ◌∙◌}
use mathlib.Core.Bool.{Bool, true, false, not, ◌&&◌, true≢false}
use Prim.Native.Nat.{◌*◌, ◌<◌}
use native.Mathlib.Nat.{eq-zero-or-pos}
use native.Mathlib.Omega.{arith}
use mathlib.Core.Logic.{⊎_elim}
use borrow.Author.Tests.{lt-ltb}
use lib.IntN.{pos}
use lib.Dec.{T, eqb}
use lib.Ieee.{Float, nan, inf, fin, binary32, fits, up, down, lt, le, eq, is_nan, of_bits, to_bits, size}
use Rattle.math.specs.Rounded.{zero_f, top_f}
use Rattle.math.proofs.Fitting.{no_size}
use Rattle.math.proofs.Zeros.{equal-none, none_equal}
use Rattle.frames.specs.Limits.{is_plus, is_time}

-- what equals 0 is a number
pub number : (t : Float) → eq t zero_f ≡ true → T (not (is_nan t))
unfolding eq is_nan of_bits
number nan h = absurd (true≢false (sym h))
number (inf s) h = tt
number (fin s m e) h = tt

zero-form : (s : Bool) → eqb (to_bits binary32 (fin s 0 (pos 0))) 0 ≡ is_plus (fin s 0 (pos 0)) && le (fin s 0 (pos 0)) top_f
unfolding to_bits size le lt eq of_bits
zero-form true = refl
zero-form false = refl

pub at_zero : (t : Float) → T (fits binary32 t) → eq t zero_f ≡ true → eqb (to_bits binary32 t) 0 ≡ is_time t
unfolding is_time eq of_bits
at_zero nan f h = absurd (true≢false (sym h))
at_zero (inf true) f h = absurd (true≢false (sym h))
at_zero (inf false) f h = absurd (true≢false (sym h))
at_zero (fin s m e) f h =
    let z = no_size binary32 s m e f (equal-none s m e h) in
    rw (z.0, z.1) (zero-form s)

pub off_zero : (t : Float) → eq t zero_f ≡ false → lt zero_f t && le t top_f ≡ is_time t
unfolding is_time lt eq of_bits
off_zero nan h = refl
off_zero (inf true) h = refl
off_zero (inf false) h = refl
off_zero (fin true m e) h = refl
off_zero (fin false m e) h =
    ⊎_elim (λ z. absurd (true≢false (sym (none_equal false m e z) ∙ h))) (λ z. ap (λ (b : Bool). b && le (fin false m e) top_f) (above z)) (eq-zero-or-pos (m * up e))
  where
    above : 0 < m * up e → lt zero_f (fin false m e) ≡ true
    above z = lt-ltb (0 * 1 * down e) (m * up e * 1) (omega arith)
