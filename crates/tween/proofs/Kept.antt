-- An accepted reset, seek, reverse, pause or resume hands back a tween within its limits. Assumes nothing.
use Rattle.std.specs.Prelude.{Ok, Result}
use Rattle.std.proofs.Common.{◌≡◌, false, T}
use mathlib.Core.Path.{subst⁻¹}
use lib.Ieee.{Float, binary32, lt, le, is_nan}
use Rattle.math.specs.Rounded.{zero_f, ◌⊖◌, ◌⊗◌}
use Rattle.math.specs.Range.{clamp_of, clamp01_of, max_zero_of}
use Rattle.math.proofs.Choice.{by-test}
use Rattle.math.proofs.Order.{le-numbers}
use Rattle.math.proofs.Upward.{Up, max-zero-up}
use Rattle.math.proofs.Sizes.{at-most-finite}
use Rattle.math.proofs.Numbers.{sub_number}
use Rattle.math.proofs.Ranges.{clamp-between, clamped}
use Rattle.math.proofs.Bounded.{zero-most, zero-within}
use Rattle.math.proofs.Beneath.{at-most-le, share-le}
use Rattle.refusal.specs.declared.Refusal.TheVariants.{RecordBreaksLimit, ProgressIsNan}
use Rattle.tween.specs.declared.record.Tween.{Tween}
use Rattle.tween.specs.declared.record.TweenState.{TweenState}
use Rattle.tween.specs.declared.record.TweenState.TheVariants.{Idle, Running, Paused, Completed}
use Rattle.tween.specs.Parts.{with_ends, put, moved}
use Rattle.tween.specs.Limits.{top_wait, idle_below, within_of}
use Rattle.tween.specs.Calls.{limited, at_start, woken, paused, resumed, sought_in, reset_of, seek_of, reverse_of, pause_of, resume_of}
use Rattle.tween.specs.Promises.{keeps, ResetKeeps, SeekKeeps, ReverseKeeps, PauseKeeps, ResumeKeeps}
use Rattle.tween.proofs.Bounds.{top-wait-is, Limits, limits, settings-stay, settings-turned, between, clock, within, waited, elapsed}
use Rattle.refusal.specs.declared.rejected.Rejected.{Rejected}
use Rattle.refusal.specs.Refusing.{rejected}

-- while Idle the delay is not over; no call makes a tween Idle but reset
idle-stays : (a : TweenState) (w d : Float) → T (idle_below a w d) → T (idle_below (woken a) w d) × T (idle_below (paused a) w d) × T (idle_below (resumed a) w d)
idle-stays Idle w d h = (h, h, h)
idle-stays Running w d h = (tt, tt, tt)
idle-stays Paused w d h = (tt, tt, tt)
idle-stays Completed w d h = (tt, tt, tt)

max-zero-to : (x d : Float) → T (le x d) → Up d → T (le (max_zero_of x) d)
max-zero-to x d h k = by-test (λ (z : Float). T (le z d)) (lt zero_f x) x zero_f (λ _. h) (λ _. k)

-- an accepted call: what holds of the tween that it makes of t holds of its answer
accepted : (t u : Tween) → (Limits t → T (within_of u)) → T (keeps (limited t (Ok u)))
accepted t u h = by-test (λ (a : Result Tween (Rejected Tween)). T (keeps a)) (within_of t) (Ok u) (rejected t RecordBreaksLimit) (λ k. h (limits t (subst⁻¹ T k tt))) (λ _. tt)

pub reset-keeps : ResetKeeps
unfolding reset_of
reset-keeps t =
    accepted t (put (at_start t) t)
    (λ i. within (put (at_start t) t) (settings-stay (at_start t) t i.settings)
    (clock (put (at_start t) t) (between zero_f t.duration zero_f zero-within.0 i.duration-up) (between zero_f top_wait zero_f zero-within.0 (at-most-le 33554432 zero_f top_wait top-wait-is (zero-most 33554432)))
    (by-test (λ (s : TweenState). T (idle_below s zero_f t.delay)) (lt zero_f t.delay) Idle Running (λ h. subst⁻¹ T h tt) (λ _. tt))) tt)

pub seek-keeps : SeekKeeps
unfolding seek_of
seek-keeps t p f =
    by-test (λ (a : Result Tween (Rejected Tween)). T (keeps a)) (within_of t) _ _
    (λ h. by-test (λ (a : Result Tween (Rejected Tween)). T (keeps a)) (is_nan p) (rejected t ProgressIsNan) (Ok (sought_in t p)) (λ _. tt) (λ n. sought (limits t (subst⁻¹ T h tt)) n))
    (λ _. tt)
  where
    sought : Limits t → is_nan p ≡ false → T (within_of (sought_in t p))
    sought i n =
        let d = t.duration in
        let x = clamp01_of p ⊗ d in
        let now = moved (max_zero_of x) (woken t.state) t in
        let to : T (le x d) = share-le (clamp01_of p) d (clamped p n) f i.duration-up (at-most-finite 16777216 d i.duration-most) in
        within (sought_in t p) (settings-stay now t i.settings)
        (clock (sought_in t p) (between zero_f d (max_zero_of x) (max-zero-up x) (max-zero-to x d to i.duration-up)) (waited t i) (idle-stays t.state t.delay_elapsed t.delay i.idle).0) i.count

pub reverse-keeps : ReverseKeeps
unfolding reverse_of
reverse-keeps t =
    let now = moved (clamp_of (t.duration ⊖ t.elapsed) zero_f t.duration) (woken t.state) t in
    let u = with_ends t.end t.start now t in
    accepted t u
    (λ i.
    let number : is_nan (t.duration ⊖ t.elapsed) ≡ false = sub_number binary32 t.duration t.elapsed (at-most-finite 16777216 t.duration i.duration-most) (le-numbers t.elapsed t.duration i.elapsed-to).0 in
    let e = clamp-between (t.duration ⊖ t.elapsed) zero_f t.duration number i.duration-up in
    within u (settings-turned now t i.settings)
    (clock u (between zero_f t.duration u.elapsed e.0 e.1) (waited t i) (idle-stays t.state t.delay_elapsed t.delay i.idle).0) i.count)

pub pause-keeps : PauseKeeps
unfolding pause_of
pause-keeps t =
    let now = moved t.elapsed (paused t.state) t in
    accepted t (put now t)
    (λ i. within (put now t) (settings-stay now t i.settings) (clock (put now t) (elapsed t i) (waited t i) (idle-stays t.state t.delay_elapsed t.delay i.idle).1) i.count)

pub resume-keeps : ResumeKeeps
unfolding resume_of
resume-keeps t =
    let now = moved t.elapsed (resumed t.state) t in
    accepted t (put now t)
    (λ i. within (put now t) (settings-stay now t i.settings) (clock (put now t) (elapsed t i) (waited t i) (idle-stays t.state t.delay_elapsed t.delay i.idle).2) i.count)
