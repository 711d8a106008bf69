-- What `rem` is on patterns: of significands and powers of 2, as whole numbers. Assumes nothing.
use Rattle.std.proofs.Common.{◌≡◌, ℕ, zero, suc, ◌+◌, ◌-◌, ◌*◌, ◌/◌, ◌%◌, ◌^◌, ◌<◌, ◌≤◌, Bool, true, false, cond, T, leb, pos, sym, refl, ap, ◌∙◌, subst, ⊎_elim, le_trans, le_of_eq, lt_of_lt_of_le, le_of_suc-le-suc, lt_irrefl, mul-le-mul_right, mod-lt, mod-eq_of_lt, mul_assoc, mul_comm, eq-or-lt_of_le, mul-lt-mul_of_pos_right, mul-pos, lt_of_not-le, div-add-mod', zero-mul, mul-div_cancel, arith, pow_pos, pow_mono, pow-add, shl_lt, ne_eqb}
use Prim.Native.Nat.compare
use Prim.Native.Nat.{compare, Ordering}
use native.Mathlib.Nat.{mul-mod_left, mul-add-mod_self_right}
use mathlib.Core.Path.{subst⁻¹}
use lib.Count.{count_leading_zeros, leading_top}
use lib.Ieee.{Float, nan, inf, fin, binary32, up, down, size, nearest, units, round, rem, fits, of_bits}
use lib.Ieee.Bits.{of_bits-to_bits, to_bits-lt}
use lib.Ieee.Digits.{size-lt, size-le}
use lib.Ieee.Fits.{core, round_is, down_pos}
use lib.Ieee.Exact.{HasValue}
use lib.Ieee.Positive.{first_pos}
use lib.Ieee.Scale.{round_same}
use Rattle.math.specs.Bits.{bits_of}
use Rattle.math.proofs.Ordered.{units_of, digits_of, with-sign, in-units, value, rising, endless, signed}
use Rattle.math.proofs.Patterns.{reads-nan}
use Rattle.math.proofs.Units.{small}

-- ---- q * 2 ^ k smallest values, with as many digits in q as a float keeps, are rounded to that many units
places : (q k : ℕ) → q < 16777216 → (q < 8388608 → k ≡ 0) → size (q * 2 ^ k) - 24 ≡ k
places q zero h z = none (size (q * 2 ^ 0)) (size-le (q * 2 ^ 0) 24 (omega arith))
  where
    none : (n : ℕ) → n ≤ 24 → n - 24 ≡ 0
    none n l = omega arith
places q (suc k) h z = between (size (q * 2 ^ suc k)) (size-le (q * 2 ^ suc k) (24 + suc k) (shl_lt 24 (suc k) h)) (lt_of_not-le short)
  where
    long : 8388608 ≤ q
    long = le_of_suc-le-suc (lt_of_not-le (λ (l : suc q ≤ 8388608). omega (arith, z l)))

    short : size (q * 2 ^ suc k) ≤ 23 + suc k → ⊥
    short l =
        lt_irrefl (q * 2 ^ suc k)
        (lt_of_lt_of_le (size-lt (q * 2 ^ suc k)) (le_trans (pow_mono l) (le_trans (le_of_eq (pow-add 2 23 (suc k))) (mul-le-mul_right (2 ^ suc k) long))))

    between : (n : ℕ) → n ≤ 24 + suc k → 23 + suc k < n → n - 24 ≡ suc k
    between n a b = omega arith

above_zero : (u : ℕ) → 0 < u → compare 0 u ≡ Ordering.lt
above_zero zero h = absurd (lt_irrefl 0 h)
above_zero (suc u) h = compare.zero-suc u

whole : (s : Bool) (den k q : ℕ) → 0 < den * 2 ^ k → core binary32 s (q * (den * 2 ^ k)) den k ≡ units binary32 s q k
whole s den k q h =
    let u = den * 2 ^ k in
    ap (λ (x : ℕ). units binary32 s (nearest x (compare (q * u % u * 2) u)) k) (mul-div_cancel q h)
    ∙ ap (λ (x : ℕ). units binary32 s (nearest q (compare (x * 2) u)) k) (mul-mod_left q u)
    ∙ ap (λ (o : Ordering). units binary32 s (nearest q o) k) (above_zero u h)

turned : (q a b : ℕ) → q * a * b ≡ q * (b * a)
turned q a b = mul_assoc q a b ∙ ap (λ (z : ℕ). q * z) (mul_comm a b)

rounded : (s : Bool) (q k : ℕ) → q < 16777216 → (q < 8388608 → k ≡ 0) → round binary32 s (q * 2 ^ k) (2 ^ 149) ≡ units binary32 s q k
rounded s q k h z =
    let n = q * 2 ^ k in
    round_is binary32 s n (2 ^ 149)
    ∙ ap (λ (w : ℕ). core binary32 s (n * 2 ^ 149) (2 ^ 149) (size w - 24)) (mul-div_cancel n (pow_pos 149))
    ∙ ap (λ (j : ℕ). core binary32 s (n * 2 ^ 149) (2 ^ 149) j) (places q k h z)
    ∙ ap (λ (w : ℕ). core binary32 s w (2 ^ 149) k) (turned q (2 ^ k) (2 ^ 149))
    ∙ whole s (2 ^ 149) k q (mul-pos (pow_pos 149) (pow_pos k))

-- a pattern, as that many smallest values
pub reads : (s : Bool) (n : ℕ) → n < 0x7f80_0000 → of_bits binary32 (with-sign s n) ≡ round binary32 s (digits_of n * 2 ^ units_of n) (2 ^ 149)
reads s n h = in-units s n h ∙ sym (rounded s (digits_of n) (units_of n) (omega arith) (λ l. omega arith))

-- and the pattern of q * 2 ^ k of them, with q moved up
pub placed : (s : Bool) (q k i : ℕ) → i ≤ k → k ≤ 253 → q * 2 ^ i < 16777216 → (q * 2 ^ i < 8388608 → k - i ≡ 0)
    → of_bits binary32 (with-sign s ((k - i) * 8388608 + q * 2 ^ i)) ≡ round binary32 s (q * 2 ^ k) (2 ^ 149)
placed s q k i l h d z =
    let p = q * 2 ^ i in
    let e : i + (k - i) ≡ k = omega arith in
    let same : p * 2 ^ (k - i) ≡ q * 2 ^ k = mul_assoc q (2 ^ i) (2 ^ (k - i)) ∙ ap (λ (w : ℕ). q * w) (sym (pow-add 2 i (k - i)) ∙ ap (λ (w : ℕ). 2 ^ w) e) in
    small s p (k - i) (omega arith) z (omega arith)
    ∙ sym (rounded s p (k - i) d z)
    ∙ ap (λ (w : ℕ). round binary32 s w (2 ^ 149)) same

pub placed-none : (s : Bool) (q k : ℕ) → q ≡ 0 → of_bits binary32 (with-sign s 0) ≡ round binary32 s (q * 2 ^ k) (2 ^ 149)
placed-none s q k e = reads s 0 (omega arith) ∙ ap (λ (w : ℕ). round binary32 s w (2 ^ 149)) (sym (zero-mul (2 ^ k)) ∙ ap (λ (w : ℕ). w * 2 ^ k) (sym e))

-- ---- how far q moves up
pub record Raised (q z : ℕ) : Type 0 where
  pub least : 8 ≤ z
  pub most : z ≤ 31
  pub long : 8388608 ≤ q * 2 ^ (z - 8)
  pub short : (i : ℕ) → i ≤ z - 8 → q * 2 ^ i < 16777216

pub raised : (q : ℕ) → 0 < q → q < 16777216 → Raised q (count_leading_zeros 32 q)
raised q h l = go (leading_top 32 q h (omega arith))
  where
    low : (j : ℕ) → 2 ^ j ≤ q → j ≤ 23
    low j a = le_of_suc-le-suc (lt_of_not-le (λ (g : 24 ≤ j). lt_irrefl q (lt_of_lt_of_le l (le_trans (pow_mono {i = 24} g) a))))

    go : (j : ℕ) × (count_leading_zeros 32 q + suc j ≡ 32) × (2 ^ j ≤ q) × (q < 2 ^ suc j) → Raised q (count_leading_zeros 32 q)
    go (j, e, a, b) =
        let k : j ≤ 23 = low j a in
        let z = count_leading_zeros 32 q - 8 in
        record {
          least = omega arith;
          most = omega arith;
          long = le_trans (pow_mono {i = 23} (omega arith)) (le_trans (le_of_eq (pow-add 2 j z)) (mul-le-mul_right (2 ^ z) a));
          short = λ i m. lt_of_lt_of_le (shl_lt (suc j) i b) (pow_mono {j = 24} (omega arith));
        }

-- ---- the remainder of two finite floats
mod-scaled : (u v w : ℕ) → 0 < v → 0 < w → u * w % (v * w) ≡ u % v * w
mod-scaled u v w p q =
    let e : u * w ≡ u / v * (v * w) + u % v * w = sym (ap (λ (z : ℕ). z * w) (div-add-mod' u v)) ∙ spread (u / v) v (u % v) w in
    ap (λ (z : ℕ). z % (v * w)) e
    ∙ mul-add-mod_self_right (u / v) (v * w) (u % v * w)
    ∙ mod-eq_of_lt (mul-lt-mul_of_pos_right (mod-lt u p) q)
  where
    spread : (a v r w : ℕ) → (a * v + r) * w ≡ a * (v * w) + r * w
    spread a v r w = omega arith

-- a factor, reduced or not
mod_times : (a b d : ℕ) → a % d * b % d ≡ a * b % d
mod_times a b d =
    sym (ap (λ (z : ℕ). z * b % d) (sym (div-add-mod' a d)) ∙ ap (λ (z : ℕ). z % d) (spread (a / d) d (a % d) b) ∙ mul-add-mod_self_right (a / d * b) d (a % d * b))
  where
    spread : (q d r b : ℕ) → (q * d + r) * b ≡ q * b * d + r * b
    spread q d r b = omega arith

pub turn : (q n d : ℕ) → 40 ≤ n → q * 2 ^ 40 % d * 2 ^ (n - 40) % d ≡ q * 2 ^ n % d
turn q n d h =
    let e : 40 + (n - 40) ≡ n = omega arith in
    mod_times (q * 2 ^ 40) (2 ^ (n - 40)) d
    ∙ ap (λ (z : ℕ). z % d) (mul_assoc q (2 ^ 40) (2 ^ (n - 40)) ∙ ap (λ (z : ℕ). q * z) (sym (pow-add 2 40 (n - 40)) ∙ ap (λ (z : ℕ). 2 ^ z) e))

-- A / E and B / D are X / c and Y / c
crossed : (A B E D X Y c : ℕ) → 0 < c → 0 < Y → 0 < B * E → 0 < E * D → A * c ≡ X * E → B * c ≡ Y * D → A * D % (B * E) * c ≡ X % Y * (E * D)
crossed A B E D X Y c C P Q R u v =
    let a : A * D * c ≡ X * (E * D) = omega (arith, ap (λ (z : ℕ). z * D) u) in
    let b : B * E * c ≡ Y * (E * D) = omega (arith, ap (λ (z : ℕ). z * E) v) in
    sym (mod-scaled (A * D) (B * E) c Q C) ∙ ap (λ (z : ℕ). z % (B * E * c)) a ∙ ap (λ (z : ℕ). X * (E * D) % z) b ∙ mod-scaled X Y (E * D) P R

module _ (s t : Bool) (X Y c : ℕ) (C : 0 < c) (P : 0 < Y) where
  rem-values : (x y : Float) → HasValue x s X c → HasValue y t Y c → rem binary32 x y ≡ round binary32 s (X % Y) c
  unfolding rem
  rem-values nan y v w = absurd v
  rem-values (inf a) y v w = absurd v
  rem-values (fin a m e) nan v w = absurd w
  rem-values (fin a m e) (inf b) v w = absurd w
  rem-values (fin a m e) (fin b n d) v w =
      let A = m * up e in
      let B = n * up d in
      let E = down e in
      let D = down d in
      let some : 0 < B = first_pos B c (subst (λ (z : ℕ). 0 < z) (sym w.1) (mul-pos P (down_pos d))) in
      let more : 0 < n = first_pos n (up d) some in
      rw (ne_eqb n 0 (λ q. lt_irrefl 0 (subst (λ (z : ℕ). 0 < z) q more)))
      (ap (λ (u : Bool). round binary32 u (A * D % (B * E)) (E * D)) v.0
      ∙ round_same binary32 s (A * D % (B * E)) (E * D) (X % Y) c (mul-pos (down_pos e) (down_pos d)) C
      (crossed A B E D X Y c C P (mul-pos some (down_pos e)) (mul-pos (down_pos e) (down_pos d)) v.1 w.1))

over-infinity : (s t : Bool) (x : Float) (X c : ℕ) → HasValue x s X c → rem binary32 x (inf t) ≡ x
unfolding rem
over-infinity s t nan X c v = absurd v
over-infinity s t (inf u) X c v = absurd v
over-infinity s t (fin u m e) X c v = refl

module _ (s t : Bool) (a b : ℕ) where
  digits-some : 0 < b → 0 < digits_of b
  digits-some h = omega arith

  -- the larger over the smaller
  pub left_over : 0 < b → b ≤ a → a < 0x7f80_0000
      → rem binary32 (of_bits binary32 (with-sign s a)) (of_bits binary32 (with-sign t b)) ≡ round binary32 s (digits_of a * 2 ^ (units_of a - units_of b) % digits_of b * 2 ^ units_of b) (2 ^ 149)
  left_over p h l =
      let d = digits_of b in
      let k = units_of b in
      let i = units_of a - k in
      let e : i + k ≡ units_of a = omega arith in
      let same : digits_of a * 2 ^ units_of a ≡ digits_of a * 2 ^ i * 2 ^ k = ap (λ (w : ℕ). digits_of a * 2 ^ w) (sym e) ∙ ap (λ (w : ℕ). digits_of a * w) (pow-add 2 i k) ∙ sym (mul_assoc (digits_of a) (2 ^ i) (2 ^ k)) in
      rem-values s t (digits_of a * 2 ^ units_of a) (d * 2 ^ k) (2 ^ 149) (pow_pos 149) (mul-pos (digits-some p) (pow_pos k)) _ _ (value s a l) (value t b (omega arith))
      ∙ ap (λ (w : ℕ). round binary32 s (w % (d * 2 ^ k)) (2 ^ 149)) same
      ∙ ap (λ (w : ℕ). round binary32 s w (2 ^ 149)) (mod-scaled (digits_of a * 2 ^ i) d (2 ^ k) (digits-some p) (pow_pos k))

  -- the smaller over the larger
  under-finite : a < b → b < 0x7f80_0000 → rem binary32 (of_bits binary32 (with-sign s a)) (of_bits binary32 (with-sign t b)) ≡ of_bits binary32 (with-sign s a)
  under-finite h l =
      let X = digits_of a * 2 ^ units_of a in
      let Y = digits_of b * 2 ^ units_of b in
      rem-values s t X Y (2 ^ 149) (pow_pos 149) (mul-pos (digits-some (omega arith)) (pow_pos (units_of b))) _ _ (value s a (omega arith)) (value t b l)
      ∙ ap (λ (w : ℕ). round binary32 s w (2 ^ 149)) (mod-eq_of_lt (rising a b h))
      ∙ sym (reads s a (omega arith))

  pub under : a < b → b ≤ 0x7f80_0000 → rem binary32 (of_bits binary32 (with-sign s a)) (of_bits binary32 (with-sign t b)) ≡ of_bits binary32 (with-sign s a)
  under h l =
      let x = of_bits binary32 (with-sign s a) in
      ⊎_elim
      (λ e.
      ap (λ (z : ℕ). rem binary32 x (of_bits binary32 (with-sign t z))) e
      ∙ ap (rem binary32 x) (endless t)
      ∙ over-infinity s t x (digits_of a * 2 ^ units_of a) (2 ^ 149) (value s a (omega arith)))
      (λ k. under-finite h k) (eq-or-lt_of_le l)

-- ---- where there is none
over-nan : (x : Float) → rem binary32 x nan ≡ nan
unfolding rem
over-nan nan = refl
over-nan (inf s) = refl
over-nan (fin s m e) = refl

over_none : (s t : Bool) (x : Float) (X c : ℕ) → HasValue x s X c → rem binary32 x (fin t 0 (pos 0)) ≡ nan
unfolding rem
over_none s t nan X c v = absurd v
over_none s t (inf u) X c v = absurd v
over_none s t (fin u m e) X c v = refl

zero-read : (t : Bool) → of_bits binary32 (with-sign t 0) ≡ fin t 0 (pos 0)
unfolding of_bits
zero-read true = refl
zero-read false = refl

pub over_zero : (s t : Bool) (a : ℕ) → a < 0x7f80_0000 → rem binary32 (of_bits binary32 (with-sign s a)) (of_bits binary32 (with-sign t 0)) ≡ nan
over_zero s t a h = ap (rem binary32 (of_bits binary32 (with-sign s a))) (zero-read t) ∙ over_none s t _ (digits_of a * 2 ^ units_of a) (2 ^ 149) (value s a h)

of-infinity : (s : Bool) (y : Float) → rem binary32 (inf s) y ≡ nan
unfolding rem
of-infinity s y = refl

of_nan : (y : Float) → rem binary32 nan y ≡ nan
unfolding rem
of_nan y = refl

read-nan : (s : Bool) (a : ℕ) → 0x7f80_0000 < a → a < 0x8000_0000 → of_bits binary32 (with-sign s a) ≡ nan
read-nan true a h l = sym (reads-nan (0x8000_0000 + a) (omega arith))
read-nan false a h l = sym (reads-nan (0 + a) (omega arith))

pub over-nan-read : (t : Bool) (b : ℕ) (x : Float) → 0x7f80_0000 < b → b < 0x8000_0000 → of_bits binary32 (with-sign t b) ≡ rem binary32 x (of_bits binary32 (with-sign t b))
over-nan-read t b x h l = rw (read-nan t b h l) (sym (over-nan x))

pub not_finite : (s : Bool) (a : ℕ) (y : Float) → 0x7f80_0000 ≤ a → a < 0x8000_0000 → rem binary32 (of_bits binary32 (with-sign s a)) y ≡ nan
not_finite s a y h l =
    ⊎_elim (λ e. ap (λ (z : ℕ). rem binary32 (of_bits binary32 (with-sign s z)) y) (sym e) ∙ ap (λ (x : Float). rem binary32 x y) (endless s) ∙ of-infinity s y)
    (λ k. ap (λ (x : Float). rem binary32 x y) (read-nan s a k l) ∙ of_nan y) (eq-or-lt_of_le h)

-- ---- of two floats, by their patterns n and m
pattern_lt : (x : Float) (n : ℕ) → T (fits binary32 x) → n ≡ bits_of x → n < 0x1_0000_0000
pattern_lt x n h e = subst⁻¹ (λ (z : ℕ). z < 0x1_0000_0000) e (to_bits-lt binary32 x h)

read_back : (x : Float) (n : ℕ) → T (fits binary32 x) → n ≡ bits_of x → of_bits binary32 (with-sign (leb 0x8000_0000 n) (n % 0x8000_0000)) ≡ x
read_back x n h e = ap (of_bits binary32) (sym (signed n (pattern_lt x n h e)) ∙ e) ∙ of_bits-to_bits binary32 x h

resigned : (n c a p : ℕ) → n ≡ c + a → n - a + p ≡ c + p
resigned n c a p e = omega arith

pub record Patterns (x y : Float) (n m : ℕ) : Type 0 where
  pub held : T (fits binary32 x) × T (fits binary32 y)
  pub of-x : n ≡ bits_of x
  pub of-y : m ≡ bits_of y

module _ {x y : Float} {n m : ℕ} (known : Patterns x y n m) where
  -- what holds of the floats read holds of x and y
  of-reads : (P : Float → Float → Type 0) → P (of_bits binary32 (with-sign (leb 0x8000_0000 n) (n % 0x8000_0000))) (of_bits binary32 (with-sign (leb 0x8000_0000 m) (m % 0x8000_0000))) → P x y
  of-reads P p = subst (λ (z : Float). P z y) (read_back x n known.held.0 known.of-x) (subst (P (of_bits binary32 (with-sign (leb 0x8000_0000 n) (n % 0x8000_0000)))) (read_back y m known.held.1 known.of-y) p)

  pub by-nan : 0x7f80_0000 < m % 0x8000_0000 → y ≡ rem binary32 x y
  by-nan l = of-reads (λ x y. y ≡ rem binary32 x y) (over-nan-read (leb 0x8000_0000 m) (m % 0x8000_0000) _ l (omega arith))

  pub by-larger : n % 0x8000_0000 < m % 0x8000_0000 → m % 0x8000_0000 ≤ 0x7f80_0000 → x ≡ rem binary32 x y
  by-larger l g = of-reads (λ x y. x ≡ rem binary32 x y) (sym (under (leb 0x8000_0000 n) (leb 0x8000_0000 m) (n % 0x8000_0000) (m % 0x8000_0000) l g))

  pub of-endless : 0x7f80_0000 ≤ n % 0x8000_0000 → nan ≡ rem binary32 x y
  of-endless l = of-reads (λ x y. nan ≡ rem binary32 x y) (sym (not_finite (leb 0x8000_0000 n) (n % 0x8000_0000) _ l (omega arith)))

  pub by_zero : n % 0x8000_0000 < 0x7f80_0000 → m % 0x8000_0000 ≡ 0 → nan ≡ rem binary32 x y
  by_zero l z =
      of-reads (λ x y. nan ≡ rem binary32 x y)
      (subst (λ (b : ℕ). nan ≡ rem binary32 (of_bits binary32 (with-sign (leb 0x8000_0000 n) (n % 0x8000_0000))) (of_bits binary32 (with-sign (leb 0x8000_0000 m) b))) (sym z)
      (sym (over_zero (leb 0x8000_0000 n) (leb 0x8000_0000 m) (n % 0x8000_0000) l)))

  pub by-smaller : (high low r p : ℕ) → 0 < m % 0x8000_0000 → m % 0x8000_0000 ≤ n % 0x8000_0000 → n % 0x8000_0000 < 0x7f80_0000 → high ≡ units_of (n % 0x8000_0000) → low ≡ units_of (m % 0x8000_0000)
      → r ≡ (n % 0x8000_0000 - high * 8388608) * 2 ^ (high - low) % (m % 0x8000_0000 - low * 8388608)
      → ((s : Bool) → of_bits binary32 (with-sign s p) ≡ round binary32 s (r * 2 ^ low) (2 ^ 149)) → of_bits binary32 (n - n % 0x8000_0000 + p) ≡ rem binary32 x y
  by-smaller high low r p some l g i j u v =
      let s = leb 0x8000_0000 n in
      let a = n % 0x8000_0000 in
      let b = m % 0x8000_0000 in
      let d = digits_of b in
      let w : r ≡ digits_of a * 2 ^ (units_of a - units_of b) % d =
      u ∙ ap (λ (z : ℕ). (a - z * 8388608) * 2 ^ (z - low) % (b - low * 8388608)) i ∙ ap (λ (z : ℕ). digits_of a * 2 ^ (units_of a - z) % (b - z * 8388608)) j in
      ap (of_bits binary32) (resigned n (cond s 0x8000_0000 0) a p (signed n (pattern_lt x n known.held.0 known.of-x)))
      ∙ v s
      ∙ ap (λ (z : ℕ). round binary32 s (z * 2 ^ low) (2 ^ 149)) w
      ∙ ap (λ (z : ℕ). round binary32 s (digits_of a * 2 ^ (units_of a - units_of b) % d * 2 ^ z) (2 ^ 149)) j
      ∙ of-reads (λ x y. round binary32 s (digits_of a * 2 ^ (units_of a - units_of b) % d * 2 ^ units_of b) (2 ^ 149) ≡ rem binary32 x y) (sym (left_over s (leb 0x8000_0000 m) a b some l g))
