-- Document 01, "Which places take which form": "Tween struct of f32 fields by value; each update hands back one with changed elapsed". The one place where a tween is written out from another, and a new one.
use Rattle.std.specs.Prelude.{false, Float}
use Rattle.math.specs.Rounded.{zero_f, one_f}
use Rattle.easing.specs.declared.kinds.Easing.TheVariants.{Linear}
use Rattle.loop_mode.specs.declared.Loop.TheVariants.{Once}
use Rattle.tween.specs.declared.record.Tween.{Tween}
use Rattle.tween.specs.declared.record.TweenSnapshot.{TweenSnapshot}
use Rattle.tween.specs.declared.record.TweenState.{TweenState}
use Rattle.tween.specs.declared.record.TweenState.TheVariants.{Running}

-- t with other ends, and with what a snapshot says for all that moves
abbrev pub with_ends : Float → Float → TweenSnapshot → Tween → Tween
with_ends a b s t =
    record {
      start = a;
      end = b;
      duration = t.duration;
      easing = t.easing;
      delay = t.delay;
      time_scale = t.time_scale;
      looping = t.looping;
      elapsed = s.elapsed;
      delay_elapsed = s.delay_elapsed;
      state = s.state;
      loop_count = s.loop_count;
      ping_pong_reverse = s.ping_pong_reverse;
    }

-- t moved to a snapshot
abbrev pub put : TweenSnapshot → Tween → Tween
put s t = with_ends t.start t.end s t

-- what moves in t, with another elapsed and state
abbrev pub moved : Float → TweenState → Tween → TweenSnapshot
moved e s t =
    record {
      elapsed = e;
      delay_elapsed = t.delay_elapsed;
      loop_count = t.loop_count;
      ping_pong_reverse = t.ping_pong_reverse;
      state = s;
    }

-- what moves in t
abbrev pub snapshot_in : Tween → TweenSnapshot
snapshot_in t = moved t.elapsed t.state t

-- 1 s, Linear, no delay, scale 1, Once
abbrev pub new_of : Float → Float → Tween
new_of a b =
    record {
      start = a;
      end = b;
      duration = one_f;
      easing = Linear;
      delay = zero_f;
      time_scale = one_f;
      looping = Once;
      elapsed = zero_f;
      delay_elapsed = zero_f;
      state = Running;
      loop_count = 0;
      ping_pong_reverse = false;
    }
