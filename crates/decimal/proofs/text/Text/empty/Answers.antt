-- `empty` meets its contract. Assumes nothing.
use Rattle.std.proofs.Common.{refl}
use Rattle.decimal.specs.Printing.{padded}
use Rattle.decimal.proofs.text.Text.empty.Goals as goal

pub returns : goal.returns
unfolding padded
returns c = (refl, refl)
