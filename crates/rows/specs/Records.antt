-- A track out of words of the list: its head, then its frames.
use Rattle.std.specs.Prelude.{ℕ, ◌+◌, ◌*◌, List, [], ◌++◌, drop, replicate}
use Rattle.math.specs.Lists.{firsts}
use Rattle.words.specs.declared.tracks.LaxKeyframe.{LaxKeyframe}
use Rattle.words.specs.declared.tracks.LaxTrack.{LaxTrack}
use Rattle.words.specs.Tracks.{places_in}
use Rattle.words.specs.Lent.{word_at, float_at, loop_at, frame_at}

-- 64 places whose words are all 0
abbrev pub blanks : List LaxKeyframe
blanks = replicate 64 (frame_at [] 0)

-- the first count places have 8 words each, and those behind them none
unfoldable pub frames_at : List ℕ → ℕ → ℕ → List LaxKeyframe
frames_at words from count = firsts (λ i. frame_at words (from + 8 * i)) count ++ drop count blanks

unfoldable pub track_in : List ℕ → LaxTrack
track_in words =
    record {
      frames = frames_at words 6 (places_in (word_at words 0));
      count = word_at words 0;
      elapsed = float_at words 1;
      looping = loop_at words 2;
      loop_count = word_at words 4;
      complete = word_at words 5;
    }
