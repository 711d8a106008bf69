-- A track as words, for the C interface.
use Rattle.std.specs.Prelude.{ℕ, Bool, true, not, cond, ◌&&◌, List, [], ◌∷◌, ◌++◌, map, ltb, eqb, take, drop, replicate, Float, None, Option, Some}
use Rattle.easing.specs.declared.kinds.Easing.{Easing}
use Rattle.easing.specs.declared.kinds.Easing.TheVariants.{Linear}
use Rattle.loop_mode.specs.declared.Loop.{Loop}
use Rattle.loop_mode.specs.declared.Loop.TheVariants.{Once}
use Rattle.frames.specs.declared.frame.Keyframe.{Keyframe}
use Rattle.frames.specs.Limits.{frame_of, blank}
use Rattle.keyframe.specs.declared.types.Track.{Track}
use Rattle.words.specs.declared.kinds.LaxEasing.{LaxEasing}
use Rattle.words.specs.declared.tracks.LaxKeyframe.{LaxKeyframe}
use Rattle.words.specs.declared.tracks.LaxTrack.{LaxTrack}
use Rattle.words.specs.Kinds.{is_kind, easing_from, easing_words}
use Rattle.words.specs.Modes.{is_mode, loop_from, loop_words, flag_word}

-- the words of a frame
abbrev pub lax_frame : Float → Float → LaxEasing → LaxKeyframe
lax_frame time value e = record { time = time; value = value; easing = e }

-- how many of the 64 places are looked at
abbrev pub places_in : ℕ → ℕ
places_in count = cond (ltb count 64) count 64

-- every kind is one of the 38
unfoldable pub known_kinds : List LaxKeyframe → Bool
known_kinds [] = true
known_kinds (w ∷ ws) = is_kind w.easing.kind && known_kinds ws

-- and the mode one of the five
unfoldable pub known_track : LaxTrack → Bool
known_track w = known_kinds (take (places_in w.count) w.frames) && is_mode w.looping.mode

-- a kind that is none reads as Linear, a mode that is none as Once; `known_track` is asked first
abbrev pub easing_in : Option Easing → Easing
easing_in (Some e) = e
easing_in None = Linear

abbrev pub loop_in : Option Loop → Loop
loop_in (Some l) = l
loop_in None = Once

unfoldable pub frame_from : LaxKeyframe → Keyframe
frame_from w = frame_of w.time w.value (easing_in (easing_from w.easing))

-- one frame alone: Unknown where its kind is none
unfoldable pub frame_read : LaxKeyframe → Option Keyframe
frame_read w = cond (is_kind w.easing.kind) (Some (frame_from w)) None

-- 64 places without a frame
abbrev pub blanks : List Keyframe
blanks = replicate 64 blank

-- the places behind the frames are not looked at
unfoldable pub frames_from : List LaxKeyframe → ℕ → List Keyframe
frames_from ws count = map frame_from (take (places_in count) ws) ++ drop (places_in count) blanks

unfoldable pub track_from : LaxTrack → Track
track_from w =
    record {
      frames = frames_from w.frames w.count;
      count = w.count;
      elapsed = w.elapsed;
      looping = loop_in (loop_from w.looping);
      loop_count = w.loop_count;
      complete = not (eqb w.complete 0);
    }

unfoldable pub frame_words : Keyframe → LaxKeyframe
frame_words k = lax_frame k.time k.value (easing_words k.easing)

-- the places behind the frames are those that came
unfoldable pub frames_words : List LaxKeyframe → List Keyframe → ℕ → List LaxKeyframe
frames_words came fs count = map frame_words (take (places_in count) fs) ++ drop (places_in count) came

unfoldable pub track_words : List LaxKeyframe → Track → LaxTrack
track_words came t =
    record {
      frames = frames_words came t.frames t.count;
      count = places_in t.count;
      elapsed = t.elapsed;
      looping = loop_words t.looping;
      loop_count = t.loop_count;
      complete = flag_word t.complete;
    }
