-- Which bytes of a file are printed as they are.
use Rattle.std.specs.Prelude.{ℕ, Bool, not, ◌&&◌, leb, eqb}

-- printable ASCII, but for the backslash, which begins the others: \xNN
abbrev pub plain_of : ℕ → Bool
plain_of b = leb 0x20 b && leb b 0x7e && not (eqb b 0x5c)
