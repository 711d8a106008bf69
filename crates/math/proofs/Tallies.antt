-- A test counted as 0 or 1. Assumes nothing.
use Rattle.std.proofs.Common.{◌≡◌, ℕ, suc, ◌+◌, ◌<◌, Bool, true, false, cond, arith}
use mir.Val.{bool_byte}

-- it adds at most 1
pub byte-below : (b : Bool) (c i : ℕ) → c < i → c + bool_byte b < i + 1
byte-below true c i h = omega arith
byte-below false c i h = omega arith

-- one more where it passes
pub byte_more : (b : Bool) (c : ℕ) → cond b (suc c) c ≡ bool_byte b + c
byte_more true c = omega arith
byte_more false c = omega arith
