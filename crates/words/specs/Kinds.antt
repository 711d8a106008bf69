-- An easing as six words, for the C interface: the kind's place in `all_named` from 0, up to four parameters and a count.
use Rattle.std.specs.Prelude.{ℕ, Bool, cond, length, ltb, Float, None, Option, Some}
use Rattle.easing.specs.declared.kinds.Easing.{Easing}
use Rattle.easing.specs.Kinds.{number_of, all_named}
use Rattle.easing.specs.Params.{params, params_of, of_number}
use Rattle.words.specs.declared.kinds.LaxEasing.{LaxEasing}

abbrev pub words : ℕ → Float → Float → Float → Float → ℕ → LaxEasing
words k a b c d n = record { kind = k; a = a; b = b; c = c; d = d; count = n }

-- the number of a call whose words are no kind, no mode or no state
abbrev pub unknown_word : ℕ
unknown_word = 100

-- one of the 38
abbrev pub is_kind : ℕ → Bool
is_kind k = ltb k (length all_named)

-- a word that is no kind is Unknown
unfoldable pub easing_from : LaxEasing → Option Easing
easing_from w =
    cond (is_kind w.kind)
    (Some (of_number w.kind (params w.a w.b w.c w.d w.count)))
    None

-- words that a kind has no use for are 0
unfoldable pub easing_words : Easing → LaxEasing
easing_words e = let p = params_of e in words (number_of e) p.a p.b p.c p.d p.count
