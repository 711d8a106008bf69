-- Whether a tween's 18 words are within its limits, as it is asked of their patterns.
use Rattle.std.specs.Prelude.{ℕ, ◌%◌, Bool, ◌&&◌, ◌||◌, List, leb, ltb}
use Rattle.words.specs.Lent.{word_at, float_at}
use Rattle.easing_words.specs.Drawing.{holds_of}

-- a word, without its sign at most the pattern of 16,777,216
abbrev pub value_word : ℕ → Bool
value_word n = leb n 0xffff_ffff && leb (n % 0x8000_0000) 0x4b80_0000

-- 0x4b800000 is 16,777,216, 0x44800000 is 1,024
unfoldable pub settings_fit : List ℕ → Bool
settings_fit ws =
    holds_of (word_at ws 3) (float_at ws 4) (float_at ws 5) (float_at ws 6) (float_at ws 7)
    && value_word (word_at ws 0)
    && value_word (word_at ws 1)
    && leb (word_at ws 2) 0x4b80_0000
    && leb (word_at ws 9) 0x4b80_0000
    && leb (word_at ws 10) 0x4480_0000

-- 0x4c000000 is 33,554,432; the last is "while Idle, below the delay"
unfoldable pub clock_fit : List ℕ → Bool
clock_fit ws =
    leb (word_at ws 11) 4
    && leb (word_at ws 12) 65535
    && leb (word_at ws 13) (word_at ws 2)
    && leb (word_at ws 14) 0x4c00_0000
    && leb (word_at ws 16) 16777216
    && leb (word_at ws 17) 1
    && leb (word_at ws 15) 3
    && (ltb 0 (word_at ws 15) || ltb (word_at ws 14) (word_at ws 9))

abbrev pub fits_of : List ℕ → Bool
fits_of ws = settings_fit ws && clock_fit ws
