-- The bit pattern of a float above 0 and at most 1, as an exponent's field and digits, and the pattern that a root is written with. Assumes nothing.
use Rattle.std.proofs.Common.{◌≡◌, ℕ, zero, suc, ◌+◌, ◌*◌, ◌/◌, ◌%◌, ◌^◌, ◌<◌, ◌≤◌, Bool, true, false, cond, not, T, eqb, leb, sym, refl, ◌∙◌, subst, mod-eq_of_lt, zero-lt-suc, arith, ne_eqb, leb-false}
use mathlib.Core.Path.{subst⁻¹}
use mathlib.Core.Bool.{false≢true}
use borrow.Author.Tests.{lt-leb, eqb-false}
use lib.Ieee.{Float, nan, inf, binary32, odd, lt, le, eq, fits, of_fields, of_bits, nan_bits, to_bits}
use lib.Ieee.Bits.{of_bits-to_bits, to_bits-lt}
use lib.Ieee.Exact.{HasValue, odd_sign}
use Rattle.math.specs.Rounded.{zero_f, one_f}
use Rattle.math.proofs.Patterns as patterns
use Rattle.curves.specs.Root.{float_at}

-- what a field and digits say of x, which is above 0 and at most 1: a field of 0 has no leading digit
abbrev pub Read : ℕ → ℕ → Float → Type 0
Read zero t x = (0 < t) × HasValue x false (t * 2 ^ 0) (2 ^ 149)
Read (suc E) t x = (E < 254) × HasValue x false ((0x80_0000 + t) * 2 ^ E) (2 ^ 149)

-- a value with the sign set is not above 0
odd-not-above : (d q k l : ℕ) → lt zero_f (odd d true q k l) ≡ false
unfolding lt odd of_bits
odd-not-above d zero k l = refl
odd-not-above d (suc q) k l = refl

not-above : (E t : ℕ) → lt zero_f (of_fields binary32 true E t) ≡ false
unfolding of_fields lt of_bits
not-above zero t = odd-not-above 24 t 0 149
not-above (suc E) t = go (eqb (suc E) 255) (eqb t 0)
  where
    go : (a b : Bool) → lt zero_f (cond a (cond b (inf true) nan) (odd 24 true (0x80_0000 + t) E 149)) ≡ false
    go true true = refl
    go true false = refl
    go false b = odd-not-above 24 (0x80_0000 + t) E 149

-- with the sign clear
digits-some : (t : ℕ) → lt zero_f (odd 24 false t 0 149) ≡ true → 0 < t
unfolding lt odd of_bits
digits-some zero h = absurd (false≢true h)
digits-some (suc t) h = zero-lt-suc t

no-larger : (b : Bool) → T (le (cond b (inf false) nan) one_f) → ⊥
unfolding le lt eq of_bits
no-larger true h = h
no-larger false h = h

fields : (E t : ℕ) → E < 256 → lt zero_f (of_fields binary32 false E t) ≡ true → T (le (of_fields binary32 false E t) one_f) → Read E t (of_fields binary32 false E t)
unfolding of_fields
fields zero t w h k = (digits-some t h, odd_sign 24 false t 0 149)
fields (suc E) t w h k = go (eqb (suc E) 255) refl k
  where
    go : (a : Bool) → eqb (suc E) 255 ≡ a → T (le (cond a (cond (eqb t 0) (inf false) nan) (odd 24 false (0x80_0000 + t) E 149)) one_f)
        → Read (suc E) t (cond a (cond (eqb t 0) (inf false) nan) (odd 24 false (0x80_0000 + t) E 149))
    go true e k = absurd (no-larger (eqb t 0) k)
    go false e k = (under E w (eqb-false (suc E) 255 e), odd_sign 24 false (0x80_0000 + t) E 149)
      where
        under : (E : ℕ) → suc E < 256 → (suc E ≡ 255 → ⊥) → E < 254
        under E w n = omega arith

read-bits : (b : ℕ) → b < 0x1_0000_0000 → lt zero_f (of_bits binary32 b) ≡ true → T (le (of_bits binary32 b) one_f) → Read (b / 0x80_0000) (b % 0x80_0000) (of_bits binary32 b)
unfolding of_bits
read-bits b w = go (leb 0x8000_0000 b) refl
  where
    go : (s : Bool) → leb 0x8000_0000 b ≡ s → lt zero_f (of_fields binary32 s (b % 0x8000_0000 / 0x80_0000) (b % 0x80_0000)) ≡ true
        → T (le (of_fields binary32 s (b % 0x8000_0000 / 0x80_0000) (b % 0x80_0000)) one_f)
        → Read (b / 0x80_0000) (b % 0x80_0000) (of_fields binary32 s (b % 0x8000_0000 / 0x80_0000) (b % 0x80_0000))
    go true e h k = absurd (false≢true (sym (not-above (b % 0x8000_0000 / 0x80_0000) (b % 0x80_0000)) ∙ h))
    go false e h k =
        let l : b % 0x8000_0000 ≡ b = mod-eq_of_lt (leb-false 0x8000_0000 b e) in
        subst (λ (n : ℕ). Read (n / 0x80_0000) (b % 0x80_0000) (of_fields binary32 false (b % 0x8000_0000 / 0x80_0000) (b % 0x80_0000))) l (fields (b % 0x8000_0000 / 0x80_0000) (b % 0x80_0000) (omega arith) h k)

pub pattern-read : (x : Float) → T (fits binary32 x) → lt zero_f x ≡ true → T (le x one_f) → Read (to_bits binary32 x / 0x80_0000) (to_bits binary32 x % 0x80_0000) x
pattern-read x f h k =
    let b = to_bits binary32 x in
    let e : of_bits binary32 b ≡ x = of_bits-to_bits binary32 x f in
    subst (Read (b / 0x80_0000) (b % 0x80_0000)) e
    (read-bits b (to_bits-lt binary32 x f) (subst⁻¹ (λ (y : Float). lt zero_f y ≡ true) e h) (subst⁻¹ (λ (y : Float). T (le y one_f)) e k))

-- the leading digit of q adds one to the field
module _ (j q : ℕ) (few : j < 254) (least : 0x80_0000 ≤ q) (most : q < 0x100_0000) where
  pub written : of_bits binary32 (j * 0x80_0000 + q) ≡ float_at q j
  unfolding of_bits of_fields
  written =
      let b = j * 0x80_0000 + q in
      let s : leb 0x8000_0000 b ≡ false = lt-leb 0x8000_0000 b (omega arith) in
      let E : b % 0x8000_0000 / 0x80_0000 ≡ suc j = omega arith in
      let t : 0x80_0000 + b % 0x80_0000 ≡ q = omega arith in
      let z : eqb (suc j) 255 ≡ false = ne_eqb (suc j) 255 (λ (e : suc j ≡ 255). omega arith) in
      rw (s, E, z, t)

  pub no_nan : T (not (nan_bits binary32 (j * 0x80_0000 + q)))
  no_nan = patterns.no_nan (j * 0x80_0000 + q) (omega arith)
