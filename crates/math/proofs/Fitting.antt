-- What a format's holding a value says of the value: it has at most `prec` digits, lies in reach and is no finer than the smallest value, rounding changes nothing, a zero has one form, and where it is whole it is that whole number, rounded. Assumes nothing.
use Rattle.std.proofs.Common.{◌≡◌, ℕ, zero, suc, ◌+◌, ◌-◌, ◌*◌, ◌^◌, ◌<◌, ◌≤◌, Bool, true, false, T, ℤ, pos, negsuc, sym, refl, ap, ◌∙◌, le_trans, le_of_eq, lt_of_lt_of_le, le_of_suc-le-suc, lt_of_le_of_lt, lt_irrefl, zero-lt-suc, mul_assoc, add_comm, lt_of_mul-lt-mul_right, mul-lt-mul_of_pos_right, mul-pos, one-mul, lt_of_not-le, zero-mul, mul-one, mul_right_comm, le-mul_of_pos_right, arith, eqb→eq, ltb→lt, leb→le, pow_pos, pow-add}
use mathlib.Core.Path.{subst⁻¹}
use native.Mathlib.Nat.{pow-succ'}
use lib.Pow.{pow-lt}
use lib.Ieee.{Float, fin, Format, binary32, binary64, prec, emax, low, up, down, round, fits, of_int}
use lib.Ieee.Fits.{up_pos, down_pos, and_l, and_r, of_int-fits}
use lib.Ieee.Exact.{HasValue, round_exact}
use lib.Ieee.Scale.{round_same}
use lib.Ieee.Back.{whole_unique}

pub few-digits : (f : Format) (s : Bool) (m : ℕ) (e : ℤ) → T (fits f (fin s m e)) → m < 2 ^ prec f
unfolding fits
few-digits f s zero e t = pow_pos (prec f)
few-digits f s (suc m) e t = ltb→lt (suc m) (2 ^ prec f) (search (and_l, and_r))

in_reach : (f : Format) (s : Bool) (m : ℕ) (e : ℤ) → T (fits f (fin s (suc m) e)) → suc m * up e < 2 ^ suc (emax f) * down e
unfolding fits
in_reach f s m e t = ltb→lt (suc m * up e) (2 ^ suc (emax f) * down e) (search (and_l, and_r))

pub fine-grained : (f : Format) (s : Bool) (m : ℕ) (e : ℤ) → T (fits f (fin s (suc m) e)) → down e ≤ 2 ^ low f
unfolding fits
fine-grained f s m e t = leb→le (down e) (2 ^ low f) (search (and_l, and_r))

-- a zero
some : (a : ℕ) → 0 < a → a ≡ 0 → ⊥
some a h e = omega arith

two_up : (p : ℕ) → 0 < p → 2 * p ≡ 1 → ⊥
two_up p h e = omega arith

flat : (e : ℤ) → up e * down e ≡ 1 → e ≡ pos 0
flat (pos zero) h = refl
flat (pos (suc k)) h = absurd (two_up (2 ^ k) (pow_pos k) (sym (pow-succ' 2 k) ∙ sym (mul-one (2 ^ suc k)) ∙ h))
flat (negsuc k) h = absurd (two_up (2 ^ k) (pow_pos k) (sym (pow-succ' 2 k) ∙ sym (one-mul (2 ^ suc k)) ∙ h))

-- what has no size is a zero
pub no_size : (f : Format) (s : Bool) (m : ℕ) (e : ℤ) → T (fits f (fin s m e)) → m * up e ≡ 0 → (m ≡ 0) × (e ≡ pos 0)
unfolding fits
no_size f s zero e t h = (refl, flat e (eqb→eq (up e * down e) 1 t))
no_size f s (suc m) e t h = absurd (some (suc m * up e) (mul-pos (zero-lt-suc m) (up_pos e)) h)

-- and a rounded 0 is the zero with its sign
zero-form : (f : Format) (s : Bool) → round f s 0 1 ≡ fin s 0 (pos 0)
unfolding round
zero-form binary32 true = refl
zero-form binary32 false = refl
zero-form binary64 true = refl
zero-form binary64 false = refl

pub rounds-none : (f : Format) (s : Bool) (a c : ℕ) → a ≡ 0 → 0 < c → round f s a c ≡ fin s 0 (pos 0)
rounds-none f s a c h C = round_same f s a c 0 1 C (zero-lt-suc 0) (omega (arith, h)) ∙ zero-form f s

pub pow-at-most : (i p : ℕ) → 2 ^ i ≤ 2 ^ p → i ≤ p
pow-at-most i p h = le_of_suc-le-suc (lt_of_not-le (λ (g : suc p ≤ i). lt_irrefl (2 ^ p) (lt_of_lt_of_le (pow-lt g) h)))

-- a value of the format rounds to itself
module _ (f : Format) (s : Bool) (m : ℕ) (e : ℤ) (t : T (fits f (fin s (suc m) e))) where
  held_at : (j : ℕ) → suc m * up e * 2 ^ low f ≡ suc m * 2 ^ j * down e → HasValue (round f s (suc m * up e) (down e)) s (suc m * up e) (down e)
  held_at j h =
      round_exact f s (suc m * up e) (down e) (suc m) j (down_pos e) (few-digits f s (suc m) e t)
      (lt_of_mul-lt-mul_right (down e) (lt_of_lt_of_le (lt_of_le_of_lt (le_of_eq (sym h)) (mul-lt-mul_of_pos_right (in_reach f s m e t) (pow_pos (low f)))) (le_of_eq (room (down e)))))
      h
    where
      room : (d : ℕ) → 2 ^ suc (emax f) * d * 2 ^ low f ≡ 2 ^ (low f + suc (emax f)) * d
      room d = mul_right_comm (2 ^ suc (emax f)) d (2 ^ low f) ∙ ap (λ (x : ℕ). x * d) (sym (pow-add 2 (suc (emax f)) (low f)) ∙ ap (λ (x : ℕ). 2 ^ x) (add_comm (suc (emax f)) (low f)))

pub round-held : (f : Format) (s : Bool) (m : ℕ) (e : ℤ) → T (fits f (fin s m e)) → HasValue (round f s (m * up e) (down e)) s (m * up e) (down e)
round-held f s zero e t =
    subst⁻¹ (λ (x : Float). HasValue x s (0 * up e) (down e)) (rounds-none f s (0 * up e) (down e) (zero-mul (up e)) (down_pos e)) (refl, omega arith)
round-held f s (suc m) (pos k) t =
    held_at f s m (pos k) t (k + low f) (mul_assoc (suc m) (2 ^ k) (2 ^ low f) ∙ ap (λ (x : ℕ). suc m * x) (sym (pow-add 2 k (low f))) ∙ sym (mul-one (suc m * 2 ^ (k + low f))))
round-held f s (suc m) (negsuc k) t =
    let l : suc k ≤ low f = pow-at-most (suc k) (low f) (fine-grained f s m (negsuc k) t) in
    let j : low f - suc k + suc k ≡ low f = omega arith in
    held_at f s m (negsuc k) t (low f - suc k)
    (ap (λ (x : ℕ). x * 2 ^ low f) (mul-one (suc m)) ∙ ap (λ (x : ℕ). suc m * 2 ^ x) (sym j) ∙ ap (λ (x : ℕ). suc m * x) (pow-add 2 (low f - suc k) (suc k)) ∙ sym (mul_assoc (suc m) (2 ^ (low f - suc k)) (2 ^ suc k)))

-- a whole number
pub held : (f : Format) (m k : ℕ) → T (fits f (fin false m (pos k))) → of_int f (pos (m * 2 ^ k)) ≡ fin false m (pos k)
unfolding of_int
held f m k t = whole_unique f (of_int f (pos (m * 2 ^ k))) (fin false m (pos k)) false (m * 2 ^ k) (of_int-fits f (pos (m * 2 ^ k))) t (round-held f false m (pos k) t) (refl, refl)

-- from 2 ^ prec on every value is whole
pub no_fraction : (f : Format) (s : Bool) (m : ℕ) (e : ℤ) → T (fits f (fin s m e)) → 2 ^ prec f * down e ≤ m * up e → (k : ℕ) × (e ≡ pos k)
no_fraction f s m (pos k) t h = (k, refl)
no_fraction f s m (negsuc k) t h =
    absurd (lt_irrefl m (lt_of_lt_of_le (few-digits f s m (negsuc k) t) (le_trans (le-mul_of_pos_right (2 ^ prec f) (pow_pos (suc k))) (le_trans h (le_of_eq (mul-one m))))))
