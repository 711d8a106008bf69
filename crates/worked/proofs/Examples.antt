-- The starred examples hold of the definitions, row by row, by computation. Assumes nothing.
use mathlib.Core.Path.{refl}
use Rattle.worked.specs.Table.{Starred}
use Rattle.worked.proofs.Computing.{tweens}

pub starred : Starred
unfolding tweens
starred = (refl, (refl, (refl, (refl, (refl, (refl, (refl, (refl, (refl, (refl, (((refl, (refl, tt)), ((refl, (refl, tt)), ((refl, (refl, (refl, tt))), tt))), (((refl, (refl, (refl, tt))), tt), (((refl, (refl, tt)), tt), (((refl, (refl, tt)), tt), ((refl, tt), tt)))))))))))))))
