-- Every call that is handed a track within its limits hands back one within them. Assumes nothing.
use Rattle.std.specs.Prelude.{Err, None, Ok, Option, Some}
use Rattle.std.proofs.Common.{◌≡◌, ℕ, ◌-◌, ◌<◌, ◌≤◌, Bool, true, false, ◌&&◌, T, eqb, leb, List, ◌++◌, length, take, drop, pos, refl, le_refl, arith, lit≤, le→leb, take_at, le-leb, leb-true, Result}
use mathlib.Core.Path.{subst⁻¹}
use borrow.Author.Tests.{eqb-false}
use lib.Ieee.{Float, binary32, lt, le, eq, is_nan, of_int, of_bits}
use denote.Floats.{passes as holds}
use Rattle.math.specs.Whole.{Is}
use Rattle.math.specs.Rounded.{◌⊕◌, ◌⊗◌, zero_f, top_f}
use Rattle.math.specs.Range.{is_value, clamp01_of, max_zero_of}
use Rattle.math.proofs.Choice.{by-test, and_both}
use Rattle.math.proofs.Order.{le-numbers, le-chain, lt-le, lt-le-chain, lt_of_not_le, le_of_not_lt}
use Rattle.math.proofs.Upward.{Up, add-up, mul-up, max-zero-up}
use Rattle.math.proofs.Sizes.{at-most-finite, is-at-most}
use Rattle.math.proofs.Ranges.{clamped}
use Rattle.math.proofs.Wholes.{whole_is, zero_is, le_is}
use Rattle.easing.specs.Kinds.{supplied_of}
use Rattle.easing.specs.Params as params
use Rattle.easing.specs.Apply.{fits_record_of}
use Rattle.loop_mode.specs.declared.Loop.{Loop}
use Rattle.loop_mode.specs.declared.Loop.TheVariants.{Once, Times, Forever, PingPong, PingPongTimes}
use Rattle.loop_mode.specs.Passes as passes
use Rattle.frames.specs.declared.frame.Keyframe.{Keyframe}
use Rattle.frames.specs.Limits.{is_time, frame_within, frames_after, frames_within, before_all}
use Rattle.frames.specs.declared.frame.Put.{Put}
use Rattle.frames.specs.Sampling.{duration_of, last_of}
use Rattle.frames.specs.Pushing.{pushed_of, put_of}
use Rattle.frames.proofs.Pushed.{pushed-fine, pushed-last}
use Rattle.frames.proofs.Rising.{each-fine, time-fine}
use Rattle.frames.proofs.Clocks.{Clock, clock-finite, clock-test, test-clock, time-clock, shrunk-clock}
use Rattle.keyframe.specs.declared.types.Track.{Track}
use Rattle.keyframe.specs.declared.types.Updated.{Updated}
use Rattle.keyframe.specs.Limits.{frames_in, base_of, over_passes, end_of, mode_fits, clock_fits, within_of, Fine}
use Rattle.keyframe.specs.Pushing.{new_track, stored_of, later_of, takes_of, with_frames, with_mode, placed_of, looping_of, left_by}
use Rattle.keyframe.specs.Stepping.{moved_of, advance_of, reset_of, span_in, sought_of, seek_to_of, left_by_update}
use Rattle.keyframe.specs.Promises.{NewWithin, PushWithin, ModeWithin, UpdateWithin, ResetWithin, SeekWithin}
use Rattle.keyframe.proofs.Records.{few-frames, frames-fine, elapsed-fine, mode-fine}
use Rattle.keyframe.proofs.Changes.{by-push}
use Rattle.keyframe.proofs.Moves.{by-update}
use Rattle.refusal.specs.declared.rejected.Rejected.{Rejected}

make : (t : Track) → t.count ≤ 64 → frames_within (frames_in t) ≡ true → Clock t.elapsed → mode_fits t.looping (base_of t) ≡ true → Fine t
unfolding within_of clock_fits
make t n f c m = rw (le-leb t.count 64 n, f, clock-test t.elapsed c, m)

pub new-within : NewWithin
unfolding new_track within_of clock_fits mode_fits end_of duration_of frames_after passes.within_of le lt eq of_bits
new-within = refl

-- times
zero-clock : Clock zero_f
unfolding le lt eq of_bits
zero-clock = (tt, tt)

passes_up : (base : Float) (n : ℕ) → Clock base → leb n 65535 ≡ true → Up (over_passes base n)
passes_up base n c h =
    let m = passes.passes_of n in
    let k = of_int binary32 (pos m) in
    let l : m ≤ 65535 = by-test (λ (m : ℕ). m ≤ 65535) (eqb n 0) 1 n (λ _. lit≤ tt) (λ _. leb-true n 65535 h) in
    let v : Is k m = whole_is binary32 m (omega (arith, l)) in
    let u : Up k = subst⁻¹ T (le_is zero_f k 0 m zero_is v) (le→leb 0 m (omega arith)) in
    mul-up binary32 base k (clock-finite base c) (at-most-finite m k (is-at-most k m m v (le_refl m))) c.0 u

passes-clock : (base : Float) (n : ℕ) → Clock base → leb n 65535 && le (over_passes base n) top_f ≡ true → Clock (over_passes base n)
passes-clock base n c h =
    let b = and_both (leb n 65535) (le (over_passes base n) top_f) h in
    (passes_up base n c b.0, holds (le (over_passes base n) top_f) b.1)

-- where playback ends, it ends in time
abbrev Timely : Option Float → Type 0
Timely (Some total) = Clock total
Timely None = Unit {0}

end-timely : (m : Loop) (base : Float) → Clock base → mode_fits m base ≡ true → Timely (end_of m base)
unfolding mode_fits end_of passes.within_of
end-timely Once base c h = c
end-timely (Times n) base c h = passes-clock base n c h
end-timely Forever base c h = tt
end-timely PingPong base c h = tt
end-timely (PingPongTimes n) base c h = passes-clock base n c h

duration-clock : (l : List Keyframe) → frames_within l ≡ true → Clock (duration_of l)
unfolding duration_of
duration-clock l f =
    by-test Clock (eqb (length l) 0) zero_f (last_of l).time (λ _. zero-clock)
    (λ e.
    let some : length l ≡ 0 → ⊥ = eqb-false (length l) 0 e in
    let b : length l - 1 < length l = omega (arith, some) in
    time-clock (last_of l).time (time-fine (last_of l) (each-fine before_all l f (length l - 1) b)))

module _ (t : Track) (fine : Fine t) where
  base-clock : Clock (base_of t)
  base-clock = duration-clock (frames_in t) (frames-fine t fine)

  timely : Timely (end_of t.looping (base_of t))
  timely = end-timely t.looping (base_of t) base-clock (mode-fine t fine)

  moved-within : (e : Float) (c : ℕ) (b : Bool) → Clock e → Fine (moved_of t e c b)
  moved-within e c b k = make (moved_of t e c b) (few-frames t fine) (frames-fine t fine) k (mode-fine t fine)

  -- update
  advance-within : (end : Option Float) → Timely end → (sum : Float) → Up sum → Fine (left_by_update (advance_of end t sum))
  unfolding advance_of
  advance-within (Some total) k sum u =
      by-test (λ (r : Result Updated (Rejected Track)). Fine (left_by_update r)) (le total sum) _ _ (λ _. moved-within total _ _ k)
      (λ h. moved-within sum _ _ (u, le-chain sum total top_f (lt-le sum total (lt_of_not_le total sum (le-numbers total top_f k.1).0 (le-numbers zero_f sum u).1 h)) k.1))
  advance-within None k sum u =
      by-test (λ (r : Result Updated (Rejected Track)). Fine (left_by_update r)) (lt top_f sum) _ _ (λ _. fine)
      (λ h. moved-within sum _ _ (u, le_of_not_lt top_f sum top-number (le-numbers zero_f sum u).1 h))
    where
      top-number : is_nan top_f ≡ false
      top-number = (le-numbers zero_f top_f zero-clock.1).1

  span-clock : (end : Option Float) → Timely end → Clock (span_in end (base_of t))
  span-clock (Some total) k = k
  span-clock None k = base-clock

pub update-within : UpdateWithin
update-within t fine dt =
    by-update (λ (r : Result Updated (Rejected Track)). Fine (left_by_update r)) t dt (λ _. fine) (λ _. fine)
    (λ _. advance-within t fine (end_of t.looping (base_of t)) (timely t fine) (t.elapsed ⊕ max_zero_of dt) (add-up binary32 t.elapsed (max_zero_of dt) (test-clock t.elapsed (elapsed-fine t fine)).0 (max-zero-up dt)))

pub reset-within : ResetWithin
unfolding reset_of
reset-within t fine = rw fine (moved-within t fine zero_f 0 false zero-clock)

pub seek-within : SeekWithin
unfolding seek_to_of sought_of
seek-within t fine p =
    rw fine
    (by-test (λ (r : Result Track (Rejected Track)). Fine (left_by r)) (is_nan p) _ _ (λ _. fine)
    (λ h.
    let end = end_of t.looping (base_of t) in
    by-test Fine (eq (span_in end (base_of t)) zero_f) _ _ (λ _. moved-within t fine zero_f 0 true zero-clock)
    (λ _. moved-within t fine (span_in end (base_of t) ⊗ clamp01_of p) _ _ (shrunk-clock (span_in end (base_of t)) (clamp01_of p) (span-clock t fine end (timely t fine)) (clamped p h)))))

pub mode-within : ModeWithin
unfolding looping_of
mode-within t fine m =
    rw fine
    (by-test (λ (r : Result Track (Rejected Track)). Fine (left_by r)) (mode_fits m (base_of t)) _ _
    (λ h. make (with_mode t m) (few-frames t fine) (frames-fine t fine) (test-clock t.elapsed (elapsed-fine t fine)) h)
    (λ _. fine))

-- push
before-zero : T (lt before_all zero_f)
unfolding lt of_bits
before-zero = tt

module _ (t : Track) (fine : Fine t) (k : Keyframe) (good : frame_within k ≡ true) (fits : mode_fits t.looping (later_of (base_of t) k.time) ≡ true) where
  clock : Clock k.time
  clock = time-clock k.time (time-fine k good)

  grown-fine : frames_within (pushed_of k (frames_in t)) ≡ true
  grown-fine = pushed-fine k good before_all (frames_in t) (lt-le-chain before_all zero_f k.time before-zero clock.0) (frames-fine t fine)

  grown-mode : mode_fits t.looping (duration_of (pushed_of k (frames_in t))) ≡ true
  grown-mode = rw (pushed-last k (le-numbers zero_f k.time clock.0).1 clock.0 (frames_in t) (frames-fine t fine)) fits

  placed-within : Fine (left_by (placed_of t (put_of t.frames t.count k)))
  unfolding put_of placed_of
  placed-within =
      let l = pushed_of k (frames_in t) in
      by-test (λ (p : Result Put Put). Fine (left_by (placed_of t p))) (leb (length l) 64) (Ok (record { frames = l ++ drop (length l) t.frames; count = length l })) (Err (record { frames = t.frames; count = t.count }))
      (λ h.
      let e : take (length l) (l ++ drop (length l) t.frames) ≡ l = take_at l (drop (length l) t.frames) (length l) refl in
      make (with_frames t (l ++ drop (length l) t.frames) (length l)) (leb-true (length l) 64 h) (rw e grown-fine) (test-clock t.elapsed (elapsed-fine t fine)) (rw e grown-mode))
      (λ _. fine)

pub push-within : PushWithin
unfolding takes_of frame_within fits_record_of
push-within t fine k =
    by-push (λ (r : Result Track (Rejected Track)). Fine (left_by r)) t k (λ _. fine) (λ s p h. placed-within t fine (stored_of k) (framed (stored_of k) h s p) (fitting (stored_of k) h))
  where
    framed : (f : Keyframe) → takes_of t f ≡ true → supplied_of f.easing ≡ true → params.within_of (params.params_of f.easing) ≡ true → frame_within f ≡ true
    framed f h s p =
        let a = (and_both (is_time f.time && is_value f.value) (mode_fits t.looping (later_of (base_of t) f.time)) h).0 in
        rw ((and_both (is_time f.time) (is_value f.value) a).0, (and_both (is_time f.time) (is_value f.value) a).1, s, p)

    fitting : (f : Keyframe) → takes_of t f ≡ true → mode_fits t.looping (later_of (base_of t) f.time) ≡ true
    fitting f h = (and_both (is_time f.time && is_value f.value) (mode_fits t.looping (later_of (base_of t) f.time)) h).1
