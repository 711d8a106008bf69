-- Document 01, "The tween" and "Refusal numbers": the calls that read a tween, and those that change it, but for `update`. Each refuses 4 first.
use Rattle.std.specs.Prelude.{false, cond, is_nan, Float, Err, Ok, Result}
use Rattle.std.specs.Float.{inf}
use Rattle.std.specs.Float.Ieee.{lt, eq}
use Rattle.math.specs.Rounded.{◌⊕◌, ◌⊖◌, ◌⊗◌, whole_f, zero_f}
use Rattle.math.specs.Range.{clamp_of, clamp01_of, max_zero_of}
use Rattle.math.specs.Blend.{ratio_of, blend_of}
use Rattle.bezier.specs.Bezier.{plain_of, with_value}
use Rattle.refusal.specs.declared.Refusal.TheVariants.{ProgressIsNan, RecordBreaksLimit}
use Rattle.refusal.specs.Refusing.{unless, when}
use Rattle.easing.specs.Apply.{apply_of}
use Rattle.loop_mode.specs.declared.Loop.{Loop}
use Rattle.loop_mode.specs.declared.Loop.TheVariants.{Once, Times, Forever, PingPong, PingPongTimes}
use Rattle.loop_mode.specs.Passes.{passes_of}
use Rattle.tween.specs.declared.record.Tween.{Tween}
use Rattle.tween.specs.declared.record.TweenSnapshot.{TweenSnapshot}
use Rattle.tween.specs.declared.record.TweenState.{TweenState}
use Rattle.tween.specs.declared.record.TweenState.TheVariants.{Idle, Running, Paused, Completed}
use Rattle.tween.specs.Parts.{with_ends, put, snapshot_in, moved}
use Rattle.tween.specs.Limits.{within_of}
use Rattle.bezier.specs.declared.types.Found.{Found}
use Rattle.units.specs.declared.Progress.{Progress}
use Rattle.refusal.specs.declared.Refusal.{Refusal}
use Rattle.refusal.specs.declared.rejected.Rejected.{Rejected}
use Rattle.units.specs.declared.Seconds.{Seconds}
use Rattle.refusal.specs.Refusing.{rejected}

-- "`progress` as in the source": 1 where the duration is 0, else elapsed / duration, clamped
abbrev pub progress_in : Tween → Float
progress_in t = ratio_of t.elapsed t.duration

unfoldable pub progress_of : Tween → Result Progress Refusal
progress_of t = unless (within_of t) (Err RecordBreaksLimit) (Ok (record { 0 = progress_in t }))

-- the curve at that progress
unfoldable pub eased_progress_of : Tween → Result Found Refusal
eased_progress_of t = unless (within_of t) (Err RecordBreaksLimit) (apply_of t.easing (progress_in t))

-- "ends exchanged while ping_pong_reverse"
abbrev pub blend_at : Tween → Float → Float
blend_at t c = cond t.ping_pong_reverse (blend_of t.end t.start c) (blend_of t.start t.end c)

-- Request 1: "Easing, tween value .. hand the "settled" mark on"
abbrev pub blend_in : Tween → Result Found Refusal → Result Found Refusal
blend_in t (Ok f) = Ok (with_value (blend_at t f.value) f)
blend_in t (Err r) = Err r

-- "`value` is end if duration is 0; else the blend at the eased elapsed / duration". Request 1: "values found without easing count as settled with no evaluations"
unfoldable pub value_of : Tween → Result Found Refusal
value_of t =
    unless (within_of t) (Err RecordBreaksLimit)
    (cond (eq t.duration zero_f) (Ok (plain_of t.end)) (blend_in t (apply_of t.easing (progress_in t))))

unfoldable pub snapshot_of : Tween → Result TweenSnapshot Refusal
snapshot_of t = unless (within_of t) (Err RecordBreaksLimit) (Ok (snapshot_in t))

-- the delay and all passes, as the source adds them; without an end, infinity
abbrev pub lasts : Loop → Float → Float → Float
lasts Once delay duration = delay ⊕ duration
lasts (Times n) delay duration = delay ⊕ duration ⊗ whole_f (passes_of n)
lasts (PingPongTimes n) delay duration = delay ⊕ duration ⊗ whole_f (passes_of n)
lasts Forever delay duration = inf false
lasts PingPong delay duration = inf false

unfoldable pub playback_duration_of : Tween → Result Seconds Refusal
playback_duration_of t =
    unless (within_of t) (Err RecordBreaksLimit) (Ok (record { 0 = lasts t.looping t.delay t.duration }))

-- 4 for a record that breaks a limit, else the answer
abbrev pub limited : Tween → Result Tween (Rejected Tween) → Result Tween (Rejected Tween)
limited t answer = unless (within_of t) (rejected t RecordBreaksLimit) answer

-- "Idle if delay > 0, else Running"
abbrev pub first_state : Float → TweenState
first_state delay = cond (lt zero_f delay) Idle Running

-- "`reset`: elapsed, delay_elapsed and loop_count 0, not reversed"
abbrev pub at_start : Tween → TweenSnapshot
at_start t =
    record {
      elapsed = zero_f;
      delay_elapsed = zero_f;
      loop_count = 0;
      ping_pong_reverse = false;
      state = first_state t.delay;
    }

unfoldable pub reset_of : Tween → Result Tween (Rejected Tween)
reset_of t = limited t (Ok (put (at_start t) t))

-- "Completed becomes Running"
abbrev pub woken : TweenState → TweenState
woken Idle = Idle
woken Running = Running
woken Paused = Paused
woken Completed = Running

-- "`seek`: elapsed = clamped t times duration, max with 0; Completed becomes Running, loop_count stays"
abbrev pub sought_in : Tween → Float → Tween
sought_in t p = put (moved (max_zero_of (clamp01_of p ⊗ t.duration)) (woken t.state) t) t

unfoldable pub seek_of : Tween → Float → Result Tween (Rejected Tween)
seek_of t p =
    limited t
    (when (is_nan p) (rejected t ProgressIsNan)
    (Ok (sought_in t p)))

-- "`reverse` exchanges start and end, elapsed becomes duration less elapsed, clamped; Completed becomes Running"
unfoldable pub reverse_of : Tween → Result Tween (Rejected Tween)
reverse_of t =
    let left = clamp_of (t.duration ⊖ t.elapsed) zero_f t.duration in
    limited t (Ok (with_ends t.end t.start (moved left (woken t.state) t) t))

-- "`pause` acts only on Running"
abbrev pub paused : TweenState → TweenState
paused Idle = Idle
paused Running = Paused
paused Paused = Paused
paused Completed = Completed

unfoldable pub pause_of : Tween → Result Tween (Rejected Tween)
pause_of t = limited t (Ok (put (moved t.elapsed (paused t.state) t) t))

-- "`resume` only on Paused"
abbrev pub resumed : TweenState → TweenState
resumed Idle = Idle
resumed Running = Running
resumed Paused = Running
resumed Completed = Completed

unfoldable pub resume_of : Tween → Result Tween (Rejected Tween)
resume_of t = limited t (Ok (put (moved t.elapsed (resumed t.state) t) t))
