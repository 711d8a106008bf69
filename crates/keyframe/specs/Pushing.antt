-- Document 01, "The track" and "Refusal numbers": a frame pushed into a track, and a change of its mode.
use Rattle.std.specs.Prelude.{ℕ, Bool, false, cond, ◌&&◌, List, replicate, Float, Err, Ok, Result}
use Rattle.std.specs.Float.Ieee.{lt, eq}
use Rattle.math.specs.Rounded.{zero_f}
use Rattle.math.specs.Range.{is_value}
use Rattle.refusal.specs.declared.Refusal.TheVariants.{RecordBreaksLimit, EasingNotSupplied, EasingParameter, TrackLimit, TrackFull}
use Rattle.refusal.specs.Refusing.{unless, rejected}
use Rattle.easing.specs.Kinds.{supplied_of}
use Rattle.easing.specs.Params as params
use Rattle.loop_mode.specs.declared.Loop.{Loop}
use Rattle.loop_mode.specs.declared.Loop.TheVariants.{Once}
use Rattle.frames.specs.declared.frame.Keyframe.{Keyframe}
use Rattle.frames.specs.declared.frame.Put.{Put}
use Rattle.frames.specs.Limits.{frame_of, is_time, blank}
use Rattle.frames.specs.Pushing.{put_of}
use Rattle.keyframe.specs.declared.types.Track.{Track}
use Rattle.keyframe.specs.Limits.{base_of, mode_fits, within_of}
use Rattle.refusal.specs.declared.rejected.Rejected.{Rejected}

-- the track that a call hands back, refused or not
abbrev pub left_by : Result Track (Rejected Track) → Track
left_by (Ok t) = t
left_by (Err r) = r.value

-- no frames, Once, as in the source
unfoldable pub new_track : Track
new_track =
    record {
      frames = replicate 64 blank;
      count = 0;
      elapsed = zero_f;
      looping = Once;
      loop_count = 0;
      complete = false;
    }

-- "a pushed -0 is taken and stored as +0, not refused"
abbrev pub stored_of : Keyframe → Keyframe
stored_of k = frame_of (cond (eq k.time zero_f) zero_f k.time) k.value k.easing

-- the last time, once a frame at `time` is in
abbrev pub later_of : Float → Float → Float
later_of base time = cond (lt time base) base time

-- "a pushed time or value breaks a frame limit, or a push .. would break a track's pass or total limit"
unfoldable pub takes_of : Track → Keyframe → Bool
takes_of t k = is_time k.time && is_value k.value && mode_fits t.looping (later_of (base_of t) k.time)

-- "push and a change of mode clear completion and keep elapsed, loop_count and the places behind the frames"
abbrev pub remade : Track → List Keyframe → ℕ → Loop → Track
remade t fs n m =
    record {
      frames = fs;
      count = n;
      elapsed = t.elapsed;
      looping = m;
      loop_count = t.loop_count;
      complete = false;
    }

abbrev pub with_frames : Track → List Keyframe → ℕ → Track
with_frames t fs n = remade t fs n t.looping

abbrev pub with_mode : Track → Loop → Track
with_mode t m = remade t t.frames t.count m

-- 9: "push into a full track at a time no frame has"
unfoldable pub placed_of : Track → Result Put Put → Result Track (Rejected Track)
placed_of t (Ok p) = Ok (with_frames t p.frames p.count)
placed_of t (Err p) = rejected t TrackFull

-- the order of the refusals: 4, 2, 3, 11, 9
unfoldable pub push_of : Track → Keyframe → Result Track (Rejected Track)
push_of t k =
    unless (within_of t) (rejected t RecordBreaksLimit)
    (unless (supplied_of k.easing) (rejected t EasingNotSupplied)
    (unless (params.within_of (params.params_of k.easing)) (rejected t EasingParameter)
    (unless (takes_of t (stored_of k)) (rejected t TrackLimit)
    (placed_of t (put_of t.frames t.count (stored_of k))))))

-- 4, then 11: "a push or change of mode would break a track's pass or total limit"
unfoldable pub looping_of : Track → Loop → Result Track (Rejected Track)
looping_of t m =
    unless (within_of t) (rejected t RecordBreaksLimit)
    (unless (mode_fits m (base_of t)) (rejected t TrackLimit)
    (Ok (with_mode t m)))
