-- Lists of 128 places that a call is lent.
use Rattle.std.specs.Prelude.{ℕ, ◌+◌, cond, List, ltb, Float, replicate}
use Rattle.math.specs.Rounded.{f32}
use Rattle.math.specs.Lists.{firsts}
use Rattle.words.specs.Lent.{word_at, float_at}

-- a length among the words; 128 for one above
abbrev pub length_at : List ℕ → ℕ → ℕ
length_at words at = cond (ltb (word_at words at) 128) (word_at words at) 128

-- 1e30, which no call writes
abbrev mark : ℕ
mark = 0x7149_f2ca

abbrev pub mark_words : List ℕ
mark_words = replicate 128 mark

abbrev pub mark_floats : List Float
mark_floats = replicate 128 (f32 mark)

abbrev pub floats_at : List ℕ → ℕ → List Float
floats_at words from = firsts (λ i. float_at words (from + i)) 128

-- a count as a word; the largest word for one above
abbrev pub count_word : ℕ → ℕ
count_word n = cond (ltb n 0xffff_ffff) n 0xffff_ffff
