-- A frame pushed into a track's words: a row of eight words goes among those of the frames, which keep theirs.
use Rattle.std.specs.Prelude.{ℕ, ◌+◌, ◌*◌, Bool, cond, ◌&&◌, ◌||◌, List, [], ◌∷◌, ◌++◌, ltb, length, take, drop, set}
use Rattle.std.specs.Float.Ieee.{eq}
use Rattle.math.specs.Rounded.{zero_f}
use Rattle.frames.specs.Inner.{earlier_of}
use Rattle.words.specs.Lent.{word_at, float_at}
use Rattle.track_words.specs.Reading.{frames_of}

-- the eight words of a row
abbrev pub row_of : List ℕ → List ℕ
row_of row = word_at row 0 ∷ word_at row 1 ∷ word_at row 2 ∷ word_at row 3 ∷ word_at row 4 ∷ word_at row 5 ∷ word_at row 6 ∷ word_at row 7 ∷ []

-- -0 as a time becomes +0
abbrev pub stored_row : List ℕ → List ℕ
stored_row row = set (row_of row) 0 (cond (eq (float_at row 0) zero_f) 0 (word_at row 0))

-- the row's place: how many frames from the front are before its time
abbrev pub place_of : List ℕ → List ℕ → ℕ
place_of words row = earlier_of (float_at row 0) (take (word_at words 512) (frames_of words))

-- the frame there has the row's time, and gives way
abbrev pub replaces : List ℕ → List ℕ → Bool
replaces words row = ltb (place_of words row) (word_at words 512) && eq (float_at words (8 * place_of words row)) (float_at row 0)

-- else there must be a place free
abbrev pub has_room : List ℕ → List ℕ → Bool
has_room words row = replaces words row || ltb (word_at words 512) 64

-- new words in the places from `at` on, and the others as they came; a list keeps its length
unfoldable pub over : List ℕ → ℕ → List ℕ → List ℕ
over words at new = take (length words) (take at words ++ new ++ drop (at + length new) words)

-- of n frames; complete is cleared
abbrev pub count_into : List ℕ → ℕ → List ℕ
count_into words n = set (set words 512 n) 517 0

-- the row over the frame that it replaces; else the row, and behind it the frames that stood from its place on
unfoldable pub push_into : List ℕ → List ℕ → List ℕ
push_into words row =
    let n = word_at words 512 in
    let p = place_of words row in
    cond (replaces words row) (count_into (over words (8 * p) (row_of row)) n)
    (count_into (over words (8 * p) (row_of row ++ drop (8 * p) (take (8 * n) words))) (n + 1))
