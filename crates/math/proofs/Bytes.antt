-- Numbers as bytes, low byte first, in any number of them: how many they are, and that each is read back from the other. Assumes nothing.
use Rattle.std.proofs.Common.{◌≡◌, ℕ, zero, suc, ◌+◌, ◌*◌, ◌/◌, ◌%◌, ◌^◌, ◌<◌, List, [], ◌∷◌, ◌++◌, length, get_or, refl, ap, ◌∙◌, subst, add-zero, mod-lt, div-lt_iff_lt-mul, pow-suc, arith, take_at}
use native.Mathlib.Nat.{mod-add-div'}
use lib.Seq.{take-nil, drop-nil, drop-append_seam}
use Rattle.math.specs.Bytes.{low_first, from_low, low_at, AreBytes, LowBack, BytesBack}
use Rattle.math.proofs.Parts.{reads_from, reads, reads_plain}

pub length-low : (k n : ℕ) → length (low_first k n) ≡ k
length-low zero n = refl
length-low (suc k) n = ap suc (length-low k (n / 256))

pub low-bytes : (k n : ℕ) → AreBytes (low_first k n)
low-bytes zero n i = omega arith
low-bytes (suc k) n zero = mod-lt n (omega arith)
low-bytes (suc k) n (suc i) = low-bytes k (n / 256) i

pub low-back : LowBack
low-back zero n h = omega arith
low-back (suc k) n h =
    ap (λ (m : ℕ). n % 256 + m * 256) (low-back k (n / 256) ((div-lt_iff_lt-mul (omega arith)).1 (subst (λ (m : ℕ). n < m) (pow-suc 256 k) h)))
    ∙ mod-add-div' n 256

-- and so it is where they stand among others
pub low-at : (front rest : List ℕ) (k n : ℕ) → n < 256 ^ k → low_at k (length front) (front ++ (low_first k n ++ rest)) ≡ n
low-at front rest k n h = rw (drop-append_seam front (low_first k n ++ rest), take_at (low_first k n) rest k (length-low k n)) (low-back k n h)

low-next : (k i : ℕ) (l : List ℕ) → get_or l i 0 + low_at k (suc i) l * 256 ≡ low_at (suc k) i l
low-next k i [] = rw (drop-nil {A = ℕ} i, drop-nil {A = ℕ} (suc i), take-nil {A = ℕ} k) refl
low-next k zero (b ∷ l) = refl
low-next k (suc i) (b ∷ l) = low-next k i l

from_low_lem : (k j i : ℕ) (l : List ℕ) → from_low (reads_from 0 k j i l) ≡ low_at k (i + j) l
from_low_lem zero j i l = refl
from_low_lem (suc k) j i l =
    let e : i + suc j ≡ suc (i + j) = omega arith in
    ap (λ (m : ℕ). get_or l (i + j) 0 + m * 256) (from_low_lem k (suc j) i l ∙ ap (λ (p : ℕ). low_at k p l) e) ∙ low-next k (i + j) l

-- a number that is read byte by byte
pub low_reads : (k i : ℕ) (l : List ℕ) → from_low (reads 0 k i l) ≡ low_at k i l
low_reads k i l = ap from_low (reads_plain 0 k i l) ∙ from_low_lem k 0 i l ∙ ap (λ (p : ℕ). low_at k p l) (add-zero i)

head_byte : (b m : ℕ) → b < 256 → ((b + m * 256) % 256 ≡ b) × ((b + m * 256) / 256 ≡ m)
head_byte b m h = (omega arith, omega arith)

pub bytes_back : BytesBack
bytes_back [] h = refl
bytes_back (b ∷ l) h =
    let e = head_byte b (from_low l) (h 0) in
    rw (e.0, e.1, bytes_back l (λ i. h (suc i))) refl

-- which they are enough for
pub bytes_below : (l : List ℕ) → AreBytes l → from_low l < 256 ^ length l
bytes_below [] h = omega arith
bytes_below (b ∷ l) h = rw (pow-suc 256 (length l)) (omega (arith, h 0, bytes_below l (λ i. h (suc i))))
