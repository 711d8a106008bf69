-- Whether a track that is lent may be used.
use Rattle.std.specs.Prelude.{ℕ, List}
use Rattle.refusal.specs.declared.Refusal.TheVariants.{RecordBreaksLimit}
use Rattle.refusal.specs.Number.{number_of}
use Rattle.refusal.specs.Refusing.{unless}
use Rattle.keyframe.specs.Limits.{within_of}
use Rattle.words.specs.Kinds.{unknown_word}
use Rattle.words.specs.Lent.{track_in}
use Rattle.words.specs.Tracks.{known_track}
use Rattle.track_words.specs.Reading.{track_of}

-- 100 where a word is no kind or no mode, 4 where the track breaks a limit
unfoldable pub check_of : List ℕ → ℕ
check_of words =
    unless (known_track (track_in words)) unknown_word
    (unless (within_of (track_of words)) (number_of RecordBreaksLimit)
    0)
