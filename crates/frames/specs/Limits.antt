-- Document 01, "Records and their limits": the limits of a frame, and of a track's frames.
use Rattle.std.specs.Prelude.{Bool, true, false, not, ◌&&◌, List, [], ◌∷◌, Float}
use Rattle.std.specs.Float.{nan, inf, fin}
use Rattle.std.specs.Float.Ieee.{lt, le}
use Rattle.math.specs.Rounded.{f32, zero_f, top_f}
use Rattle.math.specs.Range.{is_value}
use Rattle.easing.specs.Apply.{fits_record_of}
use Rattle.easing.specs.declared.kinds.Easing.{Easing}
use Rattle.easing.specs.declared.kinds.Easing.TheVariants.{Linear}
use Rattle.frames.specs.declared.frame.Keyframe.{Keyframe}

-- "Each frame carries a time, a value and one easing kind"
abbrev pub frame_of : Float → Float → Easing → Keyframe
frame_of time value e = record { time = time; value = value; easing = e }

-- the sign is clear
abbrev pub is_plus : Float → Bool
is_plus nan = false
is_plus (inf s) = not s
is_plus (fin s m e) = not s

-- "Times are finite, +0 to 16,777,216 (a record holding -0 as a time breaks this)"
unfoldable pub is_time : Float → Bool
is_time t = is_plus t && le t top_f

-- "values finite, at most 16,777,216 in size", and "Easing inside a record must be supplied and within limits"
unfoldable pub frame_within : Keyframe → Bool
frame_within k = is_time k.time && is_value k.value && fits_record_of k.easing

-- each within its limits, and "times strictly ascending": above the time before, p
unfoldable pub frames_after : Float → List Keyframe → Bool
frames_after p [] = true
frames_after p (k ∷ ks) = frame_within k && lt p k.time && frames_after k.time ks

-- -1, which stands before the first time
abbrev pub before_all : Float
before_all = f32 0xbf80_0000

abbrev pub frames_within : List Keyframe → Bool
frames_within l = frames_after before_all l

-- what a place holds that never had a frame
abbrev pub blank : Keyframe
blank = frame_of zero_f zero_f Linear

-- what stands past the end of a list, for `get_or`
abbrev pub no_frame : Keyframe
no_frame = frame_of nan nan Linear
