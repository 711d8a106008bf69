-- Which patterns are those of a step: the ones below infinity's. Assumes nothing.
use Rattle.std.proofs.Common.{◌≡◌, ℕ, zero, suc, ◌+◌, ◌/◌, ◌%◌, ◌<◌, ◌≤◌, Bool, true, false, cond, not, ◌&&◌, T, eqb, leb, sym, refl, ap, ◌∙◌, mod-eq_of_lt, arith, eq-eqb, ne_eqb, leb-false, leb-true}
use borrow.Author.Tests.{lt-leb}
use lib.Ieee.{Float, nan, inf, binary32, odd, of_fields, of_bits, nan_bits}
use Rattle.math.proofs.Patterns as patterns
use Rattle.reader.specs.Records.{is_step}

and-true : (s : Bool) → s ≡ s && true
and-true true = refl
and-true false = refl

and-false : (s : Bool) → false ≡ s && false
and-false true = refl
and-false false = refl

finite-step : (d : ℕ) (s : Bool) (q k l : ℕ) → is_step (odd d s q k l) ≡ not s
unfolding odd
finite-step d s zero k l = refl
finite-step d s (suc q) k l = refl

-- by the two tests that `of_fields` makes
picked-step : (a b s : Bool) (v : Float) → is_step v ≡ not s → is_step (cond a (cond b (inf s) nan) v) ≡ not s && not a
picked-step true true s v h = and-false (not s)
picked-step true false s v h = and-false (not s)
picked-step false b s v h = h ∙ and-true (not s)

fields-step : (s : Bool) (x t : ℕ) → is_step (of_fields binary32 s x t) ≡ not s && not (eqb x 255)
unfolding of_fields
fields-step s zero t = finite-step 24 s t 0 149 ∙ and-true (not s)
fields-step s (suc x) t = picked-step (eqb (suc x) 255) (eqb t 0) s (odd 24 s (8388608 + t) x 149) (finite-step 24 s (8388608 + t) x 149)

pattern-step : (n : ℕ) → is_step (of_bits binary32 n) ≡ not (leb 0x8000_0000 n) && not (eqb (n % 0x8000_0000 / 0x80_0000) 255)
unfolding of_bits
pattern-step n = fields-step (leb 0x8000_0000 n) (n % 0x8000_0000 / 0x80_0000) (n % 0x80_0000)

below-infinity : (n : ℕ) → n < 0x7f80_0000 → is_step (of_bits binary32 n) ≡ true
below-infinity n h =
    pattern-step n
    ∙ rw (lt-leb 0x8000_0000 n (omega arith), mod-eq_of_lt {n = n} {m = 0x8000_0000} (omega arith), ne_eqb (n / 0x80_0000) 255 (λ e. omega (arith, e))) refl

infinity-by : (n : ℕ) (b : Bool) → leb 0x8000_0000 n ≡ b → 0x7f80_0000 ≤ n → not b && not (eqb (n % 0x8000_0000 / 0x80_0000) 255) ≡ false
infinity-by n true h k = refl
infinity-by n false h k = rw (eq-eqb (n % 0x8000_0000 / 0x80_0000) 255 (omega (arith, leb-false 0x8000_0000 n h))) refl

infinity-up : (n : ℕ) → 0x7f80_0000 ≤ n → is_step (of_bits binary32 n) ≡ false
infinity-up n h = pattern-step n ∙ infinity-by n (leb 0x8000_0000 n) refl h

wrong-by : (n : ℕ) (b : Bool) → leb 0x7f80_0000 n ≡ b → b ≡ not (is_step (of_bits binary32 n))
wrong-by n true h = sym (ap not (infinity-up n (leb-true 0x7f80_0000 n h)))
wrong-by n false h = sym (ap not (below-infinity n (leb-false 0x7f80_0000 n h)))

pub wrong-step : (n : ℕ) → leb 0x7f80_0000 n ≡ not (is_step (of_bits binary32 n))
wrong-step n = wrong-by n (leb 0x7f80_0000 n) refl

-- nor are those a NaN's
pub no_nan : (n : ℕ) → n < 0x7f80_0000 → T (not (nan_bits binary32 n))
no_nan n h = patterns.no_nan n (omega arith)
