-- A tween within its limits has a progress from 0 to 1, an eased progress and a value, both finite: it never meets a refusal of its easing. Assumes nothing.
use Rattle.std.specs.Prelude.{Ok, Result}
use Rattle.std.proofs.Common.{◌≡◌, true, T, refl, lit≤}
use mathlib.Core.Path.{subst⁻¹}
use lib.Ieee.{binary32, eq}
use lib.Ieee.Bits.{is_true}
use Rattle.math.specs.Rounded.{zero_f, one_f, ◌⊘◌}
use Rattle.math.specs.Range.{clamp01_of, Within, AtMost}
use Rattle.math.specs.Blend.{blend_of}
use Rattle.math.proofs.Choice.{by-test}
use Rattle.math.proofs.Order.{le-numbers}
use Rattle.math.proofs.Sizes.{at-most-finite, at-most-more}
use Rattle.math.proofs.Numbers.{div-number}
use Rattle.math.proofs.Bounded.{one-within, blend-most}
use Rattle.math.proofs.Ranges.{clamped}
use Rattle.bezier.specs.declared.types.Found.{Found}
use Rattle.bezier.specs.Bezier.{plain_of, with_value}
use Rattle.easing.specs.Apply.{apply_of}
use Rattle.easing.proofs.Finite.{apply-bounded}
use Rattle.tween.specs.declared.record.Tween.{Tween}
use Rattle.tween.specs.Limits.{within_of}
use Rattle.tween.specs.Calls.{progress_in, progress_of, eased_progress_of, blend_at, blend_in, value_of}
use Rattle.tween.specs.Promises.{ProgressAnswers, EasedProgressAnswers, ValueAnswers}
use Rattle.tween.proofs.Bounds.{Limits, limits}
use Rattle.easing.proofs.Answering.{fits-answers}
use Rattle.refusal.specs.declared.Refusal.{Refusal}

-- a value, at most 2 ^ 53 in size
abbrev Finite : Result Found Refusal → Type 0
Finite a = (f : Found) × (a ≡ Ok f) × AtMost 9007199254740992 f.value

module _ (t : Tween) (h : T (within_of t)) where
  pub within : within_of t ≡ true
  within = is_true (within_of t) h

  i : Limits t
  i = limits t h

  pub progress-within : Within (progress_in t)
  progress-within =
      let d = t.duration in
      by-test Within (eq d zero_f) one_f (clamp01_of (t.elapsed ⊘ d)) (λ _. one-within)
      (λ z. clamped (t.elapsed ⊘ d) (div-number binary32 t.elapsed d (at-most-finite 16777216 t.elapsed i.elapsed-most) (at-most-finite 16777216 d i.duration-most) z))

  pub eased : (f : Found) × (apply_of t.easing (progress_in t) ≡ Ok f)
  eased = fits-answers t.easing (progress_in t) i.easing-fits (le-numbers zero_f (progress_in t) progress-within.0).1

  blended : Finite (blend_in t (apply_of t.easing (progress_in t)))
  blended =
      let f = eased.0 in
      let c = f.value in
      let m : AtMost 134217728 c = apply-bounded t.easing (progress_in t) f eased.1 in
      subst⁻¹ (λ (a : Result Found Refusal). Finite (blend_in t a)) eased.1 (
        with_value (blend_at t c) f,
        refl,
        by-test (AtMost 9007199254740992) t.ping_pong_reverse (blend_of t.end t.start c) (blend_of t.start t.end c)
            (λ _. blend-most t.end t.start c i.end-most i.start-most m) (λ _. blend-most t.start t.end c i.start-most i.end-most m),
      )

pub progress-answers : ProgressAnswers
unfolding progress_of
progress-answers t h = (progress_in t, rw (within t h), progress-within t h)

pub eased-progress-answers : EasedProgressAnswers
unfolding eased_progress_of
eased-progress-answers t h =
    let e = eased t h in
    (e.0, rw (within t h) e.1, apply-bounded t.easing (progress_in t) e.0 e.1)

pub value-answers : ValueAnswers
unfolding value_of
value-answers t h =
    rw (within t h)
    (by-test Finite (eq t.duration zero_f) (Ok (plain_of t.end)) (blend_in t (apply_of t.easing (progress_in t)))
    (λ _. (plain_of t.end, refl, at-most-more 16777216 9007199254740992 t.end (lit≤ tt) (limits t h).end-most)) (λ _. blended t h))
