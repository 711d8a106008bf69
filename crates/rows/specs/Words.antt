-- Words one behind the other, a float as one of them, and what it means that two lists of words agree.
use Rattle.std.specs.Prelude.{Bool, true, cond, List, [], ◌∷◌, ◌≡◌, ℕ, ◌+◌, ltb, Float, length, take, drop, set, replicate}
use Rattle.std.specs.Float.Ieee.{eq}
use Rattle.math.specs.Bits.{bits_of}
use Rattle.math.specs.Rounded.{zero_f}
use Rattle.rows.specs.declared.entries.Row.{Row}

-- a float's bits; a zero of either sign is 0, and every NaN is 0x7fc00000
unfoldable pub word_of : Float → ℕ
word_of x = cond (eq x zero_f) 0 (bits_of x)

abbrev pub empty_row : Row
empty_row = record { list = replicate 1024 0; count = 0 }

-- one word more; a word that finds no room is left out
unfoldable pub put_of : Row → ℕ → Row
put_of p w = cond (ltb p.count 1024) (record { list = set p.list p.count w; count = p.count + 1 }) p

-- the words of a list, one behind the other
unfoldable pub put_all : Row → List ℕ → Row
put_all p [] = p
put_all p (w ∷ ws) = put_all (put_of p w) ws

-- a row of these words alone
abbrev pub row_of : List ℕ → Row
row_of ws = put_all empty_row ws

-- from a place on there are n words, the first n of the other list
pub record Rest (words : List ℕ) (from : ℕ) (out : List ℕ) (n : ℕ) : Type 0 where
  pub count : length words ≡ from + n
  pub same : drop from words ≡ take n out

-- true where it is so, and there alone
abbrev pub Tells : Bool → Type 0 → Type 0
Tells b P = (b ≡ true → P) × (P → b ≡ true)
