-- What holds of all words: what was written is read back as it was. Each sentence is a type; its proof has its name in small letters.
use Rattle.std.specs.Prelude.{◌≤◌, ◌≡◌, true, List, ◌++◌, length, take, drop, Some}
use Rattle.easing.specs.declared.kinds.Easing.{Easing}
use Rattle.loop_mode.specs.declared.Loop.{Loop}
use Rattle.tween.specs.declared.record.Tween.{Tween}
use Rattle.tween.specs.declared.record.TweenState.{TweenState}
use Rattle.frames.specs.declared.frame.Keyframe.{Keyframe}
use Rattle.keyframe.specs.declared.types.Track.{Track}
use Rattle.words.specs.declared.tracks.LaxKeyframe.{LaxKeyframe}
use Rattle.words.specs.Kinds.{easing_from, easing_words}
use Rattle.words.specs.Modes.{loop_from, loop_words, state_from, state_word}
use Rattle.words.specs.Tracks.{blanks, known_track, frame_read, track_from, frame_words, track_words}
use Rattle.words.specs.Tweens.{tween_from, tween_words}

abbrev pub EasingBack : Type 0
EasingBack = (e : Easing) → easing_from (easing_words e) ≡ Some e

abbrev pub LoopBack : Type 0
LoopBack = (l : Loop) → loop_from (loop_words l) ≡ Some l

abbrev pub StateBack : Type 0
StateBack = (s : TweenState) → state_from (state_word s) ≡ Some s

abbrev pub FrameBack : Type 0
FrameBack = (k : Keyframe) → frame_read (frame_words k) ≡ Some k

abbrev pub TweenBack : Type 0
TweenBack = (t : Tween) → tween_from (tween_words t) ≡ Some t

-- t with blank places behind its frames
abbrev pub cleared : Track → Track
cleared t =
    record {
      frames = take t.count t.frames ++ drop t.count blanks;
      count = t.count;
      elapsed = t.elapsed;
      looping = t.looping;
      loop_count = t.loop_count;
      complete = t.complete;
    }

-- a track of 64 places, written over words that came
abbrev pub TrackKnown : Type 0
TrackKnown = (came : List LaxKeyframe) (t : Track) → length t.frames ≡ 64 → t.count ≤ 64 → known_track (track_words came t) ≡ true

abbrev pub TrackBack : Type 0
TrackBack = (came : List LaxKeyframe) (t : Track) → length t.frames ≡ 64 → t.count ≤ 64 → track_from (track_words came t) ≡ cleared t
