-- Records as lists of words, each in the order of its fields: how C's structs lie in memory. A float is a word by its bits.
use Rattle.std.specs.Prelude.{ℕ, ◌+◌, ◌*◌, List, get_or, set, Float}
use Rattle.math.specs.Bits.{bits_of}
use Rattle.math.specs.Lists.{firsts}
use Rattle.math.specs.Rounded.{f32}
use Rattle.tween.specs.declared.record.Tween.{Tween}
use Rattle.keyframe.specs.declared.types.Clock.{Clock}
use Rattle.words.specs.declared.kinds.LaxEasing.{LaxEasing}
use Rattle.words.specs.declared.modes.LaxLoop.{LaxLoop}
use Rattle.words.specs.declared.tweens.LaxTween.{LaxTween}
use Rattle.words.specs.declared.tracks.LaxKeyframe.{LaxKeyframe}
use Rattle.words.specs.declared.tracks.LaxTrack.{LaxTrack}
use Rattle.words.specs.Modes.{state_word, flag_word}
use Rattle.words.specs.Tracks.{lax_frame}

-- the word at a place; 0 behind the last
abbrev pub word_at : List ℕ → ℕ → ℕ
word_at words at = get_or words at 0

-- every NaN reads alike
abbrev pub float_at : List ℕ → ℕ → Float
float_at words at = f32 (word_at words at)

-- six words from a place on
abbrev pub easing_at : List ℕ → ℕ → LaxEasing
easing_at words at =
    record {
      kind = word_at words at;
      a = float_at words (at + 1);
      b = float_at words (at + 2);
      c = float_at words (at + 3);
      d = float_at words (at + 4);
      count = word_at words (at + 5);
    }

-- two words
abbrev pub loop_at : List ℕ → ℕ → LaxLoop
loop_at words at = record { mode = word_at words at; passes = word_at words (at + 1) }

-- 18 words
unfoldable pub tween_in : List ℕ → LaxTween
tween_in words =
    record {
      start = float_at words 0;
      end = float_at words 1;
      duration = float_at words 2;
      easing = easing_at words 3;
      delay = float_at words 9;
      time_scale = float_at words 10;
      looping = loop_at words 11;
      elapsed = float_at words 13;
      delay_elapsed = float_at words 14;
      state = word_at words 15;
      loop_count = word_at words 16;
      ping_pong_reverse = word_at words 17;
    }

-- eight words
unfoldable pub frame_at : List ℕ → ℕ → LaxKeyframe
frame_at words at = lax_frame (float_at words at) (float_at words (at + 1)) (easing_at words (at + 2))

-- 518 words: 64 places of 8, then the rest
unfoldable pub track_in : List ℕ → LaxTrack
track_in words =
    record {
      frames = firsts (λ i. frame_at words (8 * i)) 64;
      count = word_at words 512;
      elapsed = float_at words 513;
      looping = loop_at words 514;
      loop_count = word_at words 516;
      complete = word_at words 517;
    }

-- what a call may change in a tween, in its places; the other words stay as they came
unfoldable pub tween_into : List ℕ → Tween → List ℕ
tween_into words t =
    let ends = set (set words 0 (bits_of t.start)) 1 (bits_of t.end) in
    let times = set (set ends 13 (bits_of t.elapsed)) 14 (bits_of t.delay_elapsed) in
    set (set (set times 15 (state_word t.state)) 16 t.loop_count) 17 (flag_word t.ping_pong_reverse)

-- what moves in a track, in its places
unfoldable pub clock_into : List ℕ → Clock → List ℕ
clock_into words c = set (set (set words 513 (bits_of c.elapsed)) 516 c.loop_count) 517 (flag_word c.complete)
