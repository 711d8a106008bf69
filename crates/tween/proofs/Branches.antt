-- The value of a tween within its limits, branch by branch. Assumes nothing.
use Rattle.std.specs.Prelude.{Err, Ok, Result}
use Rattle.std.proofs.Common.{◌≡◌, true, false, T, sym, refl, ap, ◌∙◌, subst}
use mathlib.Core.Path.{subst⁻¹}
use lib.Ieee.{Float, eq, is_nan}
use Rattle.math.specs.Rounded.{zero_f}
use Rattle.math.specs.Range.{Within}
use Rattle.math.proofs.Order.{le-numbers}
use Rattle.math.proofs.Ranges.{clamp-stays}
use Rattle.bezier.specs.declared.types.Found.{Found}
use Rattle.bezier.specs.Bezier.{plain_of, with_value}
use Rattle.refusal.specs.declared.Refusal.{Refusal}
use Rattle.easing.specs.declared.kinds.Easing.{Easing}
use Rattle.easing.specs.declared.kinds.Easing.TheVariants.{Linear}
use Rattle.easing.specs.Kinds.{curve_of}
use Rattle.easing.specs.Params.{params_of}
use Rattle.easing.specs.Apply.{search_of, apply_of}
use Rattle.easing.proofs.Answering.{bare}
use Rattle.tween.specs.declared.record.Tween.{Tween}
use Rattle.tween.specs.Limits.{within_of}
use Rattle.tween.specs.Calls.{progress_in, blend_at, value_of}
use Rattle.tween.proofs.Valued.{progress-within, eased}

-- Linear leaves a progress as it is
linear : (p : Float) → Within p → apply_of Linear p ≡ Ok (plain_of p)
unfolding curve_of search_of params_of
linear p w = sym (bare Linear p (is_nan p) refl (le-numbers zero_f p w.0).1 p (sym (clamp-stays p w)) Linear refl p p (Ok (plain_of p)) refl refl refl refl)

abbrev IsValue : Result Found Refusal → Type 0
IsValue (Ok f) = Unit {0}
IsValue (Err r) = ⊥

module _ (t : Tween) (h : within_of t ≡ true) where
  pub at-end : eq t.duration zero_f ≡ true → value_of t ≡ Ok (plain_of t.end)
  unfolding value_of
  at-end z = rw (h, z)

  inside : T (within_of t)
  inside = subst⁻¹ T h tt

  -- e is the easing, p the progress
  module _ (e : Easing) (he : t.easing ≡ e) (p : Float) (hp : p ≡ progress_in t) where
    same : apply_of t.easing (progress_in t) ≡ apply_of e p
    same = ap (λ (x : Easing). apply_of x (progress_in t)) he ∙ ap (apply_of e) (sym hp)

    pub never-refused : (r : Refusal) → apply_of e p ≡ Err r → ⊥
    never-refused r k = subst IsValue (sym (eased t inside).1 ∙ same ∙ k) tt

    module _ (z : eq t.duration zero_f ≡ false) where
      pub by-curve : (f : Found) → apply_of e p ≡ Ok f → value_of t ≡ Ok (with_value (blend_at t f.value) f)
      unfolding value_of
      by-curve f k = rw (h, same ∙ k, z) refl

      pub straight : e ≡ Linear → value_of t ≡ Ok (plain_of (blend_at t p))
      straight l = by-curve (plain_of p) (ap (λ (x : Easing). apply_of x p) l ∙ linear p (subst⁻¹ Within hp (progress-within t inside)))
