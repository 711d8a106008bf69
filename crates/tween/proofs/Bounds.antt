-- The limits on a tween's numbers, one by one, and how they make up a tween within its limits. Assumes nothing.
use Rattle.std.proofs.Common.{◌≡◌, ◌≤◌, Bool, true, ◌&&◌, T, refl, ap, subst, leb-true}
use mathlib.Core.Bool.{and_comm}
use lib.Ieee.{Float, le, of_bits}
use lib.Ieee.Fits.{and_i, and_l, and_r}
use Rattle.math.specs.Rounded.{zero_f, top_f}
use Rattle.math.specs.Range.{is_value, is_between, AtMost}
use Rattle.math.specs.Whole.{Is}
use Rattle.math.proofs.Choice.{and_both}
use Rattle.math.proofs.Order.{le-chain}
use Rattle.math.proofs.Upward.{Up}
use Rattle.math.proofs.Sizes.{up_to}
use Rattle.math.proofs.Bounded.{top-is, value-most}
use Rattle.loop_mode.specs.Passes.{within_of as mode_within}
use Rattle.easing.specs.Apply.{fits_record_of}
use Rattle.tween.specs.declared.record.Tween.{Tween}
use Rattle.tween.specs.declared.record.TweenSnapshot.{TweenSnapshot}
use Rattle.tween.specs.Parts.{with_ends, put}
use Rattle.tween.specs.Limits.{top_scale, top_wait, settings_within, idle_below, clock_within, count_within, within_of}

pub top-wait-is : Is top_wait 33554432
unfolding of_bits
top-wait-is = (refl, refl)

top-scale-is : Is top_scale 1024
unfolding of_bits
top-scale-is = (refl, refl)

pub record Limits (t : Tween) : Type 0 where
  pub settings : T (settings_within t)
  pub start-most : AtMost 16777216 t.start
  pub end-most : AtMost 16777216 t.end
  pub duration-up : Up t.duration
  pub duration-most : AtMost 16777216 t.duration
  pub delay-up : Up t.delay
  pub delay-to : T (le t.delay top_f)
  pub scale-up : Up t.time_scale
  pub scale-most : AtMost 1024 t.time_scale
  pub easing-fits : T (fits_record_of t.easing)
  pub elapsed-up : Up t.elapsed
  pub elapsed-to : T (le t.elapsed t.duration)
  pub elapsed-most : AtMost 16777216 t.elapsed
  pub waited-up : Up t.delay_elapsed
  pub waited-to : T (le t.delay_elapsed top_wait)
  pub idle : T (idle_below t.state t.delay_elapsed t.delay)
  pub count : T (count_within t)

pub limits : (t : Tween) → T (within_of t) → Limits t
unfolding within_of
limits t h = go (search (and_l, and_r)) (search (and_l, and_r))
  where
    go : T (settings_within t) → T (clock_within t) → Limits t
    go a b = unfold settings_within clock_within in
        record {
          settings = a;
          start-most = value-most t.start (search (and_l, and_r) depth 8);
          end-most = value-most t.end (search (and_l, and_r) depth 8);
          duration-up = search (and_l, and_r);
          duration-most = up_to 16777216 t.duration top_f top-is (search (and_l, and_r) depth 7) (search (and_l, and_r) depth 7);
          delay-up = search (and_l, and_r);
          delay-to = search (and_l, and_r);
          scale-up = search (and_l, and_r);
          scale-most = up_to 1024 t.time_scale top_scale top-scale-is (search (and_l, and_r)) (search (and_l, and_r));
          easing-fits = search (and_l, and_r);
          elapsed-up = search (and_l, and_r);
          elapsed-to = search (and_l, and_r);
          elapsed-most = up_to 16777216 t.elapsed top_f top-is (search (and_l, and_r)) (le-chain t.elapsed t.duration top_f (search (and_l, and_r)) (search (and_l, and_r) depth 7));
          waited-up = search (and_l, and_r);
          waited-to = search (and_l, and_r);
          idle = search (and_l, and_r);
          count = and_r (settings_within t && clock_within t) (count_within t) h;
        }

pub within_count : (t : Tween) → within_of t ≡ true → t.loop_count ≤ 16777216
unfolding within_of
within_count t h = leb-true _ _ (and_both (settings_within t && clock_within t) (count_within t) h).1

-- and back: what moves is the clock alone
pub settings-stay : (now : TweenSnapshot) (t : Tween) → T (settings_within t) → T (settings_within (put now t))
unfolding settings_within
settings-stay now t h = h

pub settings-turned : (now : TweenSnapshot) (t : Tween) → T (settings_within t) → T (settings_within (with_ends t.end t.start now t))
unfolding settings_within
settings-turned now t h =
    subst T
    (ap (λ (v : Bool). v && is_between zero_f top_f t.duration && is_between zero_f top_f t.delay && is_between zero_f top_scale t.time_scale && mode_within t.looping && fits_record_of t.easing)
    (and_comm (is_value t.start) (is_value t.end))) h

pub between : (lo hi x : Float) → T (le lo x) → T (le x hi) → T (is_between lo hi x)
between lo hi x h k = and_i (le lo x) (le x hi) h k

pub clock : (t : Tween) → T (is_between zero_f t.duration t.elapsed) → T (is_between zero_f top_wait t.delay_elapsed) → T (idle_below t.state t.delay_elapsed t.delay) → T (clock_within t)
unfolding clock_within
clock t e w i =
    and_i (is_between zero_f t.duration t.elapsed && is_between zero_f top_wait t.delay_elapsed) (idle_below t.state t.delay_elapsed t.delay)
    (and_i (is_between zero_f t.duration t.elapsed) (is_between zero_f top_wait t.delay_elapsed) e w) i

pub within : (t : Tween) → T (settings_within t) → T (clock_within t) → T (count_within t) → T (within_of t)
unfolding within_of
within t s c n = and_i (settings_within t && clock_within t) (count_within t) (and_i (settings_within t) (clock_within t) s c) n

module _ (t : Tween) (i : Limits t) where
  pub waited : T (is_between zero_f top_wait t.delay_elapsed)
  waited = between zero_f top_wait t.delay_elapsed i.waited-up i.waited-to

  pub elapsed : T (is_between zero_f t.duration t.elapsed)
  elapsed = between zero_f t.duration t.elapsed i.elapsed-up i.elapsed-to
