-- `size` meets its contract: it is std's, case by case. Assumes nothing.
use mathlib.Core.Path.{◌≡◌, refl, ◌∙◌}
use Rattle.std.specs.Float.{float_with_sign, nan, inf, fin}
use Rattle.std.specs.Prelude.{Float, false}
use Rattle.math.specs.Range.{size_of}
use Rattle.math.proofs.range.size.Goals as goal

same : (x : Float) → float_with_sign false x ≡ size_of x
unfolding float_with_sign
same nan = refl
same (inf s) = refl
same (fin s m e) = refl

pub returns : goal.returns
returns c = c.abs.ensures.value ∙ same c.args.x
