-- `is_finite` meets its contract: it is std's, case by case. Assumes nothing.
use mathlib.Core.Path.{◌≡◌, refl, ◌∙◌}
use Rattle.std.specs.Float.{float_is_finite, nan, inf, fin}
use Rattle.std.specs.Prelude.{Float}
use Rattle.math.specs.Range.{is_finite}
use Rattle.math.proofs.class.is_finite.Goals as goal

same : (x : Float) → float_is_finite x ≡ is_finite x
unfolding float_is_finite
same nan = refl
same (inf s) = refl
same (fin s m e) = refl

pub returns : goal.returns
returns c = c.is_finite.ensures.value ∙ same c.args.x
