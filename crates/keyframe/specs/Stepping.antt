-- Document 01, "The track" and "Refusal numbers": what moves in a track: `update`, `reset` and `seek_to`.
use Rattle.std.specs.Prelude.{ℕ, Bool, true, false, cond, ◌&&◌, is_nan, Float, Err, None, Ok, Option, Some, Result}
use Rattle.std.specs.Float.Ieee.{lt, le, eq}
use Rattle.math.specs.Rounded.{◌⊕◌, ◌⊗◌, ◌⊘◌, zero_f, one_f, top_f}
use Rattle.math.specs.Range.{clamp01_of, max_zero_of}
use Rattle.math.specs.Lost.{lost_by}
use Rattle.math.specs.Whole.{whole_part_of}
use Rattle.refusal.specs.declared.Refusal.TheVariants.{ProgressIsNan, RecordBreaksLimit, StepTooLong, StepLost, ElapsedTooLong}
use Rattle.refusal.specs.Refusing.{unless, when, rejected}
use Rattle.loop_mode.specs.declared.Loop.{Loop}
use Rattle.loop_mode.specs.declared.Loop.TheVariants.{Once, Times, Forever, PingPong, PingPongTimes}
use Rattle.loop_mode.specs.Passes.{passes_of}
use Rattle.frames.specs.Sampling.{span_of}
use Rattle.keyframe.specs.declared.types.Track.{Track}
use Rattle.keyframe.specs.declared.types.Updated.{Updated}
use Rattle.keyframe.specs.Limits.{base_of, end_of, within_of}
use Rattle.keyframe.specs.Playback.{done_of}
use Rattle.refusal.specs.declared.rejected.Rejected.{Rejected}

-- what moves, put into a track
abbrev pub moved_of : Track → Float → ℕ → Bool → Track
moved_of t elapsed count complete =
    record {
      frames = t.frames;
      count = t.count;
      elapsed = elapsed;
      looping = t.looping;
      loop_count = count;
      complete = complete;
    }

-- an accepted update: the track, and whether it goes on
abbrev pub ran : Track → Bool → Result Updated (Rejected Track)
ran t running = Ok (record { track = t; running = running })

-- the track that an update hands back, refused or not
abbrev pub left_by_update : Result Updated (Rejected Track) → Track
left_by_update (Ok u) = u.track
left_by_update (Err r) = r.value

-- "6 if step > 0 and" the step is lost in the sum; request 5: "Where the rule now asks that the sum equal the old number"
abbrev pub lost_of : Float → Float → Bool
lost_of elapsed step = lt zero_f step && lost_by elapsed step (elapsed ⊕ step)

-- "the latter two set loop_count to n"
unfoldable pub final_of : Loop → ℕ → ℕ
final_of Once count = count
final_of (Times n) count = passes_of n
final_of Forever count = count
final_of PingPong count = count
final_of (PingPongTimes n) count = passes_of n

-- "loop_count is elapsed / last time, cut to a whole u32, at most 4,294,967,295, taken before elapsed is clipped"
abbrev pub passes_made : Track → Float → ℕ
passes_made t elapsed = whole_part_of (elapsed ⊘ base_of t)

-- "Once, Times and PingPongTimes complete at their total with elapsed = total"; "Forever and PingPong: 8 past the limit"
unfoldable pub advance_of : Option Float → Track → Float → Result Updated (Rejected Track)
advance_of (Some total) t sum =
    cond (le total sum) (ran (moved_of t total (final_of t.looping (passes_made t sum)) true) false)
    (ran (moved_of t sum (passes_made t sum) false) true)
advance_of None t sum =
    when (lt top_f sum) (rejected t ElapsedTooLong)
    (ran (moved_of t sum (passes_made t sum) false) true)

-- the order of the refusals: 4, 5, 6, 8. "complete or fewer than two frames: no change"; "NaN, negatives: 0"
unfoldable pub update_of : Track → Float → Result Updated (Rejected Track)
update_of t dt =
    unless (within_of t) (rejected t RecordBreaksLimit)
    (when (lt top_f dt) (rejected t StepTooLong)
    (cond (done_of t) (ran t false)
    (when (lost_of t.elapsed (max_zero_of dt)) (rejected t StepLost)
    (advance_of (end_of t.looping (base_of t)) t (t.elapsed ⊕ max_zero_of dt)))))

-- "`reset`, `seek_to` as in the source"
unfoldable pub reset_of : Track → Result Track (Rejected Track)
reset_of t =
    unless (within_of t) (rejected t RecordBreaksLimit)
    (Ok (moved_of t zero_f 0 false))

-- what a progress of 1 stands for: the total, and in the modes without one a pass
abbrev pub span_in : Option Float → Float → Float
span_in (Some total) base = total
span_in None base = base

abbrev pub has_end : Option Float → Bool
has_end (Some total) = true
has_end None = false

-- complete where the span is 0, and at the end of a total
unfoldable pub sought_of : Option Float → Track → Float → Track
sought_of end t p =
    let span = span_in end (base_of t) in
    cond (eq span zero_f) (moved_of t zero_f 0 true)
    (moved_of t (span ⊗ p) (whole_part_of (span ⊗ p ⊘ span_of (base_of t))) (has_end end && le one_f p))

-- 4, then 1
unfoldable pub seek_to_of : Track → Float → Result Track (Rejected Track)
seek_to_of t progress =
    unless (within_of t) (rejected t RecordBreaksLimit)
    (when (is_nan progress) (rejected t ProgressIsNan)
    (Ok (sought_of (end_of t.looping (base_of t)) t (clamp01_of progress))))
