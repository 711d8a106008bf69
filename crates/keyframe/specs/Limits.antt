-- Document 01, "Records and their limits": the limits of a track.
use Rattle.std.specs.Prelude.{◌≡◌, ℕ, Bool, true, ◌&&◌, List, take, nat_le, Float, None, Option, Some}
use Rattle.std.specs.Float.Ieee.{le}
use Rattle.math.specs.Rounded.{◌⊗◌, whole_f, zero_f, top_f}
use Rattle.math.specs.Range.{is_between}
use Rattle.loop_mode.specs.declared.Loop.{Loop}
use Rattle.loop_mode.specs.declared.Loop.TheVariants.{Once, Times, Forever, PingPong, PingPongTimes}
use Rattle.loop_mode.specs.Passes as passes
use Rattle.frames.specs.declared.frame.Keyframe.{Keyframe}
use Rattle.frames.specs.Limits.{frames_within}
use Rattle.frames.specs.Sampling.{duration_of}
use Rattle.keyframe.specs.declared.types.Track.{Track}

-- "A track holds at most 64 frames and its own count of them"
abbrev pub frames_in : Track → List Keyframe
frames_in t = take t.count t.frames

-- the last time, which is what one pass takes
abbrev pub base_of : Track → Float
base_of t = duration_of (frames_in t)

-- "last time times passes, rounded"
abbrev pub over_passes : Float → ℕ → Float
over_passes base n = base ⊗ whole_f (passes.passes_of n)

-- "in the modes with an end its total"; Once takes the last time itself, as the source does
unfoldable pub end_of : Loop → Float → Option Float
end_of Once base = Some base
end_of (Times n) base = Some (over_passes base n)
end_of Forever base = None
end_of PingPong base = None
end_of (PingPongTimes n) base = Some (over_passes base n)

-- "its total .. is at most 16,777,216"
abbrev pub total_fits : Option Float → Bool
total_fits (Some total) = le total top_f
total_fits None = true

-- "a track's pass or total limit"
unfoldable pub mode_fits : Loop → Float → Bool
mode_fits m base = passes.within_of m && total_fits (end_of m base)

-- "Its elapsed is 0 to 16,777,216"
unfoldable pub clock_fits : Float → Loop → Float → Bool
clock_fits elapsed m base = is_between zero_f top_f elapsed && mode_fits m base

unfoldable pub within_of : Track → Bool
within_of t = nat_le t.count 64 && frames_within (frames_in t) && clock_fits t.elapsed t.looping (base_of t)

-- a track within its limits
abbrev pub Fine : Track → Type 0
Fine t = within_of t ≡ true
