-- Document 01, "Checked by hand": what the program compares, and the tracks that it asks.
use Rattle.std.specs.Prelude.{ℕ, Bool, false, eqb, Float, Err, Ok, Result}
use Rattle.math.specs.Rounded.{zero_f}
use Rattle.refusal.specs.Number.{number_of}
use Rattle.easing.specs.declared.kinds.Easing.TheVariants.{Linear}
use Rattle.frames.specs.Limits.{frame_of}
use Rattle.keyframe.specs.declared.types.Track.{Track}
use Rattle.keyframe.specs.declared.types.Updated.{Updated}
use Rattle.keyframe.specs.Pushing.{new_track, push_of, left_by}
use Rattle.refusal.specs.declared.rejected.Rejected.{Rejected}

abbrev pub is_refused : Result Updated (Rejected Track) → ℕ → Bool
is_refused (Ok u) number = false
is_refused (Err r) number = eqb (number_of r.refusal) number

abbrev pub pushed : Track → Float → Float → Track
pushed t time value = left_by (push_of t (frame_of time value Linear))

-- Linear, from 0 at 0 s to a value at a time
abbrev pub ramp : Float → Float → Track
ramp time value = pushed (pushed new_track zero_f zero_f) time value
