-- What the inner steps of a check and of a push promise.
use Rattle.std.specs.Prelude.{ℕ, zero, suc, ◌+◌, ◌-◌, Bool, ◌&&◌, List, take, set, Float}
use Rattle.refusal.specs.declared.Refusal.TheVariants.{RecordBreaksLimit}
use Rattle.refusal.specs.Number.{number_of}
use Rattle.refusal.specs.Refusing.{unless}
use Rattle.frames.specs.Limits.{frames_within}
use Rattle.keyframe.specs.Limits.{clock_fits}
use Rattle.words.specs.Kinds.{unknown_word}
use Rattle.words.specs.Lent.{word_at, float_at, loop_at, track_in}
use Rattle.words.specs.Modes.{is_mode, loop_from}
use Rattle.words.specs.Tracks.{loop_in, known_kinds}
use Rattle.track_words.specs.Reading.{frames_of}

-- the kinds of the first n frames are known, and the frames within their limits
abbrev pub sound_of : List ℕ → ℕ → Bool
sound_of words n = known_kinds (take n (track_in words).frames) && frames_within (take n (frames_of words))

-- what is left to ask where the frames are sound, one pass of which takes `base` seconds
abbrev pub head_of : List ℕ → Float → ℕ
head_of words base =
    unless (is_mode (word_at words 514)) unknown_word
    (unless (clock_fits (float_at words 513) (loop_in (loop_from (loop_at words 514))) base) (number_of RecordBreaksLimit)
    0)

-- the first n words of a row in the places from `at` on
unfoldable pub row_into : List ℕ → ℕ → List ℕ → ℕ → List ℕ
row_into words at row zero = words
row_into words at row (suc n) = set (row_into words at row n) (at + n) (word_at row n)

-- the n words before `high` eight places up, the last first
unfoldable pub raised_by : List ℕ → ℕ → ℕ → List ℕ
raised_by words high zero = words
raised_by words high (suc n) = let w = raised_by words high n in set w (high - suc n + 8) (word_at w (high - suc n))
