-- A tween as words, for the C interface.
use Rattle.std.specs.Prelude.{not, eqb, None, Option, Some}
use Rattle.tween.specs.declared.record.Tween.{Tween}
use Rattle.words.specs.declared.tweens.LaxTween.{LaxTween}
use Rattle.words.specs.Kinds.{easing_from, easing_words}
use Rattle.words.specs.Modes.{loop_from, loop_words, state_from, state_word, flag_word}
use Rattle.easing.specs.declared.kinds.Easing.{Easing}
use Rattle.loop_mode.specs.declared.Loop.{Loop}
use Rattle.tween.specs.declared.record.TweenState.{TweenState}

-- Unknown where a word is no kind, no mode or no state
abbrev pub tween_of_parts : LaxTween → Option Easing → Option Loop → Option TweenState → Option Tween
tween_of_parts w (Some e) (Some l) (Some s) =
    Some
    (record {
      start = w.start;
      end = w.end;
      duration = w.duration;
      easing = e;
      delay = w.delay;
      time_scale = w.time_scale;
      looping = l;
      elapsed = w.elapsed;
      delay_elapsed = w.delay_elapsed;
      state = s;
      loop_count = w.loop_count;
      ping_pong_reverse = not (eqb w.ping_pong_reverse 0);
    })
tween_of_parts w (Some e) (Some l) None = None
tween_of_parts w (Some e) None s = None
tween_of_parts w None l s = None

unfoldable pub tween_from : LaxTween → Option Tween
tween_from w = tween_of_parts w (easing_from w.easing) (loop_from w.looping) (state_from w.state)

unfoldable pub tween_words : Tween → LaxTween
tween_words t =
    record {
      start = t.start;
      end = t.end;
      duration = t.duration;
      easing = easing_words t.easing;
      delay = t.delay;
      time_scale = t.time_scale;
      looping = loop_words t.looping;
      elapsed = t.elapsed;
      delay_elapsed = t.delay_elapsed;
      state = state_word t.state;
      loop_count = t.loop_count;
      ping_pong_reverse = flag_word t.ping_pong_reverse;
    }
