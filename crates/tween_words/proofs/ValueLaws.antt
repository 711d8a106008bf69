-- The value of a tween, by its words. Assumes nothing.
use Rattle.std.specs.Prelude.{Ok}
use Prim.Native.Nat.{ℕ}
use mathlib.Core.Path.{◌≡◌, refl}
use mathlib.Core.Bool.{true, false}
use mathlib.Core.List.{List}
use lib.Ieee.{Float, eq}
use Rattle.math.specs.Rounded.{zero_f}
use Rattle.math.specs.Blend.{ratio_of}
use Rattle.bezier.specs.declared.types.Found.{Found}
use Rattle.bezier.specs.Bezier.{plain_of, with_value}
use Rattle.easing.specs.Apply.{apply_of}
use Rattle.tween.specs.Calls.{value_of}
use Rattle.words.specs.Kinds.{easing_from}
use Rattle.words.specs.Tracks.{easing_in}
use Rattle.words.specs.Lent.{float_at, easing_at}
use Rattle.tween_words.specs.Fitting.{fits_of}
use Rattle.tween_words.specs.Valuing.{blended, Values}
use Rattle.tween_words.proofs.Fits.{parts, read_in, reads, inside}

module _ (ws : List ℕ) (fit : fits_of ws ≡ true) where
  pub valued-end : eq (float_at ws 2) zero_f ≡ true → Values ws (plain_of (float_at ws 1))
  unfolding value_of
  valued-end z = record { from = read_in ws; read = reads ws (parts ws fit); value = rw (inside ws (parts ws fit), z) refl }

  pub valued : eq (float_at ws 2) zero_f ≡ false → (p : Float) → p ≡ ratio_of (float_at ws 13) (float_at ws 2) → (f : Found) → apply_of (easing_in (easing_from (easing_at ws 3))) p ≡ Ok f → Values ws (with_value (blended ws f.value) f)
  unfolding value_of
  valued z p e f a = record { from = read_in ws; read = reads ws (parts ws fit); value = rw (inside ws (parts ws fit), ← e, a, z) refl }
