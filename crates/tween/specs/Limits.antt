-- Document 01, "Records and their limits": the limits of a tween.
use Rattle.std.specs.Prelude.{Bool, true, ◌&&◌, nat_le, Float}
use Rattle.std.specs.Float.Ieee.{lt}
use Rattle.math.specs.Rounded.{f32, zero_f, top_f}
use Rattle.math.specs.Range.{is_value, is_between}
use Rattle.easing.specs.Apply.{fits_record_of}
use Rattle.loop_mode.specs.Passes.{within_of as mode_within}
use Rattle.tween.specs.declared.record.Tween.{Tween}
use Rattle.tween.specs.declared.record.TweenState.{TweenState}
use Rattle.tween.specs.declared.record.TweenState.TheVariants.{Idle, Running, Paused, Completed}

-- 1,024
abbrev pub top_scale : Float
top_scale = f32 0x4480_0000

-- 33,554,432
abbrev pub top_wait : Float
top_wait = f32 0x4c00_0000

-- "A tween has start, end (as values), duration and delay 0 to 16,777,216, time scale 0 to 1,024"; "Pass numbers of Times and PingPongTimes are at most 65,535"; "Easing inside a record must be supplied and within limits"
unfoldable pub settings_within : Tween → Bool
settings_within t =
    is_value t.start
    && is_value t.end
    && is_between zero_f top_f t.duration
    && is_between zero_f top_f t.delay
    && is_between zero_f top_scale t.time_scale
    && mode_within t.looping
    && fits_record_of t.easing

-- "while Idle, below the delay"
abbrev pub idle_below : TweenState → Float → Float → Bool
idle_below Idle waited delay = lt waited delay
idle_below Running waited delay = true
idle_below Paused waited delay = true
idle_below Completed waited delay = true

-- "elapsed 0 to duration, delay_elapsed 0 to 33,554,432 (while Idle, below the delay)"
unfoldable pub clock_within : Tween → Bool
clock_within t =
    is_between zero_f t.duration t.elapsed
    && is_between zero_f top_wait t.delay_elapsed
    && idle_below t.state t.delay_elapsed t.delay

-- "loop_count up to 16,777,216"
abbrev pub count_within : Tween → Bool
count_within t = nat_le t.loop_count 16777216

unfoldable pub within_of : Tween → Bool
within_of t = settings_within t && clock_within t && count_within t
