-- What holds of the words that a push leaves: they are read as document 01's push. Each sentence is a type; its proof has its name in small letters.
use Rattle.std.specs.Prelude.{ℕ, ◌≡◌, true, List, length, Ok, Some}
use Rattle.frames.specs.declared.frame.Keyframe.{Keyframe}
use Rattle.frames.specs.Pushing.{pushed_of, put_of}
use Rattle.keyframe.specs.Limits.{frames_in}
use Rattle.keyframe.specs.Pushing.{push_of, stored_of, left_by, placed_of}
use Rattle.words.specs.Lent.{frame_at}
use Rattle.words.specs.Tracks.{frame_read}
use Rattle.track_words.specs.Checking.{check_of}
use Rattle.track_words.specs.Pushing.{has_room, push_into, stored_row}
use Rattle.track_words.specs.Reading.{track_of}
use Rattle.refusal.specs.Refusing.{done, outcome_of}

-- words that pass the check, and a row that is read as the frame k
pub record Pushable (words row : List ℕ) (k : Keyframe) : Type 0 where
  pub long : length words ≡ 518
  pub fine : check_of words ≡ 0
  pub known : frame_read (frame_at row 0) ≡ Some k

-- where there is room, the frames are those that were, with k among them
abbrev pub PushFrames : Type 0
PushFrames =
    (words row : List ℕ) (k : Keyframe) → Pushable words row k → has_room words (stored_row row) ≡ true
    → frames_in (track_of (push_into words (stored_row row))) ≡ pushed_of (stored_of k) (frames_in (track_of words))

-- and of the rest of the track only complete may change: the words are read as the track with k placed in it
abbrev pub PushBack : Type 0
PushBack =
    (words row : List ℕ) (k : Keyframe) → Pushable words row k → has_room words (stored_row row) ≡ true
    → let t = track_of words in
    placed_of t (put_of t.frames t.count (stored_of k)) ≡ Ok (track_of (push_into words (stored_row row)))

-- where the track takes k, the words are read as the track that it becomes
abbrev pub PushDone : Type 0
PushDone =
    (words row : List ℕ) (k : Keyframe) → Pushable words row k → outcome_of (push_of (track_of words) k) ≡ done
    → track_of (push_into words (stored_row row)) ≡ left_by (push_of (track_of words) k)

-- and they pass the check again
abbrev pub PushPasses : Type 0
PushPasses =
    (words row : List ℕ) (k : Keyframe) → Pushable words row k → outcome_of (push_of (track_of words) k) ≡ done
    → check_of (push_into words (stored_row row)) ≡ 0
