-- The test of a time, on its pattern: at most that of 16,777,216, so neither -0 nor a NaN. And no time stands before the first. Assumes nothing.
use Prim.Native.Nat.{ℕ, ◌+◌, ◌-◌, ◌*◌, ◌^◌, ◌≤◌, ◌<◌}
use native.Mathlib.Nat.{eq-or-lt_of_le}
use native.Mathlib.Omega.{arith}
use mathlib.Core.Path.{◌≡◌, refl, sym, ap, ◌∙◌}
use mathlib.Core.Logic.{⊎_elim}
use mathlib.Core.Bool.{Bool, true, false, not, ◌&&◌, true≢false}
use lib.Dec.{leb}
use borrow.Author.Tests.{lt-ltb, lt-leb, leb-true, leb-false}
use lib.Ieee.{Float, nan, inf, fin, up, down, lt, of_bits}
use lib.Ieee.Fits.{down_pos}
use lib.Ieee.Exact.{HasValue}
use Rattle.math.specs.Rounded.{f32}
use Rattle.math.proofs.Patterns.{reads-nan}
use Rattle.math.proofs.Ordered.{units_of, digits_of, value, plain, endless, at_most}
use Rattle.frames.specs.Limits.{is_plus, is_time, before_all}

plus : (x : Float) (s : Bool) (a c : ℕ) → HasValue x s a c → is_plus x ≡ not s
plus nan s a c v = absurd v
plus (inf t) s a c v = absurd v
plus (fin t m e) s a c v = ap not v.0

and_none : (b : Bool) → b && false ≡ false
and_none true = refl
and_none false = refl

minus : (m : ℕ) → m < 0x8000_0000 → is_plus (f32 (0x8000_0000 + m)) ≡ false
minus m h = go (leb 0x7f80_0000 m) refl
  where
    beyond : 0x7f80_0000 ≤ m → is_plus (f32 (0x8000_0000 + m)) ≡ false
    beyond k =
        ⊎_elim (λ e. ap (λ (z : ℕ). is_plus (f32 (0x8000_0000 + z))) (sym e) ∙ ap is_plus (endless true))
        (λ g. ap is_plus (sym (reads-nan (0x8000_0000 + m) (omega arith)))) (eq-or-lt_of_le k)

    go : (b : Bool) → leb 0x7f80_0000 m ≡ b → is_plus (f32 (0x8000_0000 + m)) ≡ false
    go true e = beyond (leb-true _ _ e)
    go false e = plus (f32 (0x8000_0000 + m)) true (digits_of m * 2 ^ units_of m) (2 ^ 149) (value true m (leb-false _ _ e))

pub time-test : (n : ℕ) → n < 0x1_0000_0000 → is_time (f32 n) ≡ leb n 0x4b80_0000
unfolding is_time
time-test n h = go (leb 0x8000_0000 n) refl
  where
    clear : n < 0x8000_0000 → (b : Bool) → leb n 0x4b80_0000 ≡ b → is_plus (f32 n) && leb n 0x4b80_0000 ≡ b
    clear k true e = rw e (ap (λ (b : Bool). b && true) (plus (f32 n) false (digits_of n * 2 ^ units_of n) (2 ^ 149) (plain n (omega (arith, leb-true n 0x4b80_0000 e)))))
    clear k false e = rw e (and_none (is_plus (f32 n)))

    go : (s : Bool) → leb 0x8000_0000 n ≡ s → is_time (f32 n) ≡ leb n 0x4b80_0000
    go false e =
        let k : n < 0x8000_0000 = leb-false _ _ e in
        ap (λ (b : Bool). is_plus (f32 n) && b) (at_most n 0x4b80_0000 k (omega arith)) ∙ clear k (leb n 0x4b80_0000) refl
    go true e =
        let k : 0x8000_0000 ≤ n = leb-true _ _ e in
        let m : 0x8000_0000 + (n - 0x8000_0000) ≡ n = omega arith in
        let f : is_plus (f32 n) ≡ false = rw m at (minus (n - 0x8000_0000) (omega arith)) in
        rw (f, lt-leb n 0x4b80_0000 (omega arith)) refl

above : (x : Float) (a c : ℕ) → HasValue x false a c → lt before_all x ≡ true
unfolding lt of_bits
above nan a c v = absurd v
above (inf s) a c v = absurd v
above (fin true m e) a c v = absurd (true≢false v.0)
above (fin false m e) a c v = lt-ltb 0 (1 * 1 * down e + m * up e * 1) (omega (arith, down_pos e))

pub after-all : (n : ℕ) → n < 0x7f80_0000 → lt before_all (f32 n) ≡ true
after-all n h = above (f32 n) (digits_of n * 2 ^ units_of n) (2 ^ 149) (plain n h)
