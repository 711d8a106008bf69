-- That delay_elapsed depends on how the steps were cut, by computation. Assumes nothing.
use Rattle.std.proofs.Common.{◌≡◌, true, refl}
use lib.Ieee.{Float, of_bits, add, sub, mul, lt, le, eq}
use Rattle.math.specs.Rounded.{f32, zero_f, one_f, two_f, ◌⊕◌}
use Rattle.easing.specs.Apply.{fits_record_of}
use Rattle.easing.specs.Kinds.{supplied_of}
use Rattle.easing.specs.Params.{params_of, within_of as params_within}
use Rattle.loop_mode.specs.Passes.{within_of as mode_within}
use Rattle.tween.specs.declared.record.Tween.{Tween}
use Rattle.tween.specs.declared.record.TweenState.TheVariants.{Idle}
use Rattle.tween.specs.Parts.{new_of}
use Rattle.tween.specs.Limits.{settings_within, clock_within, within_of}
use Rattle.tween.specs.Update.{wait_of, by_state, update_of, updated}

-- a tween with a delay of 2 s, of which w has passed
abbrev waited : Float → Tween
waited w =
    let t = new_of zero_f one_f in
    record {
      start = t.start;
      end = t.end;
      duration = t.duration;
      easing = t.easing;
      delay = two_f;
      time_scale = t.time_scale;
      looping = t.looping;
      elapsed = t.elapsed;
      delay_elapsed = w;
      state = Idle;
      loop_count = t.loop_count;
      ping_pong_reverse = t.ping_pong_reverse;
    }

-- 4.4 and 8.8 times the distance from 1 to the next f32: the second is exactly twice the first
abbrev short : Float
short = f32 0x350c_cccd

abbrev long : Float
long = f32 0x358c_cccd

-- from 1 s on, two short steps come to 1 + 8 * 2^-23, and the one long step to 1 + 9 * 2^-23; none is lost
pub cuts-differ : (update_of (waited one_f) short ≡ updated (waited (f32 0x3f80_0004)) 0 true)
    × (update_of (waited (f32 0x3f80_0004)) short ≡ updated (waited (f32 0x3f80_0008)) 0 true)
    × (short ⊕ short ≡ long)
    × (update_of (waited one_f) long ≡ updated (waited (f32 0x3f80_0009)) 0 true)
unfolding of_bits add sub mul lt le eq update_of within_of settings_within clock_within mode_within fits_record_of supplied_of params_of params_within by_state wait_of
cuts-differ = (refl, refl, refl, refl)
