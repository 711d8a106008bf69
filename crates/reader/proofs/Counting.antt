-- The difference of two 16-bit numbers, as the library's subtraction gives it. Assumes nothing.
use Rattle.std.specs.Prelude.{Some}
use Rattle.std.proofs.Common.{◌≡◌, ℕ, ◌+◌, ◌%◌, ◌<◌, arith}
use Rattle.event_log.specs.Format.{next}
use Rattle.reader.specs.Hearing.{less, gap_of}
use Rattle.reader.specs.Promises.{GapLost}

less-is : (a b d : ℕ) → a < 65536 → b < 65536 → d < 65536 → (d + b) % 65536 ≡ a → d ≡ less a b
less-is a b d h k l e = omega arith

pub gap_is : (last number d g : ℕ) → last < 65536 → number < 65536 → d < 65536 → g < 65536 → (d + last) % 65536 ≡ number → (g + 1) % 65536 ≡ d → g ≡ gap_of (Some last) number
gap_is last number d g a b c e p q = rw (less-is number last d b a c p) at (less-is d 1 g c (omega arith) e q)

-- the next number leaves no gap
pub gap-next : (n : ℕ) → n < 65536 → gap_of (Some n) (next n) ≡ 0
gap-next n h = omega arith

pub gap-lost : GapLost
gap-lost n k = omega arith
