-- Request 2, "Write the event log": "numbers low byte first".
use Rattle.std.specs.Prelude.{◌≡◌, ℕ, zero, suc, ◌+◌, ◌*◌, ◌/◌, ◌%◌, ◌^◌, ◌<◌, List, [], ◌∷◌, length, take, drop, slice_index}

-- n in so many bytes
abbrev pub low_first : ℕ → ℕ → List ℕ
low_first zero n = []
low_first (suc bytes) n = n % 256 ∷ low_first bytes (n / 256)

-- the number of such bytes
abbrev pub from_low : List ℕ → ℕ
from_low [] = 0
from_low (b ∷ bs) = b + from_low bs * 256

-- the number in so many bytes of a list, from a place on; a byte that the list has not is 0
abbrev pub low_at : ℕ → ℕ → List ℕ → ℕ
low_at bytes place l = from_low (take bytes (drop place l))

-- each element is a byte
abbrev pub AreBytes : List ℕ → Type 0
AreBytes l = (i : ℕ) → slice_index l i < 256

-- a number is read back from bytes that are enough for it
abbrev pub LowBack : Type 0
LowBack = (k n : ℕ) → n < 256 ^ k → from_low (low_first k n) ≡ n

-- and bytes are those of their number
abbrev pub BytesBack : Type 0
BytesBack = (l : List ℕ) → AreBytes l → low_first (length l) (from_low l) ≡ l
