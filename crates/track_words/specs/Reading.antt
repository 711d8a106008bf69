-- The track that 518 words stand for.
use Rattle.std.specs.Prelude.{ℕ, ◌*◌, List}
use Rattle.math.specs.Lists.{firsts}
use Rattle.frames.specs.declared.frame.Keyframe.{Keyframe}
use Rattle.keyframe.specs.declared.types.Track.{Track}
use Rattle.words.specs.Lent.{frame_at, track_in}
use Rattle.words.specs.Tracks.{frame_from, track_from}

-- what is not known reads as Linear or Once
abbrev pub track_of : List ℕ → Track
track_of words = track_from (track_in words)

-- the frame of place i
unfoldable pub frame_in : List ℕ → ℕ → Keyframe
frame_in words i = frame_from (frame_at words (8 * i))

-- the frames of the 64 places, the track's and those behind them
unfoldable pub frames_of : List ℕ → List Keyframe
frames_of words = firsts (frame_in words) 64
