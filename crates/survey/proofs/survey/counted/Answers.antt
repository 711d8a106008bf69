-- `counted` meets its contract. Assumes nothing.
use mathlib.Core.Bool.{Bool, true, false, cond}
use mathlib.Core.Path.{◌≡◌, refl}
use mir.Val.{bool_byte}
use Rattle.survey.proofs.survey.counted.Goals as goal

byte : (b : Bool) → bool_byte b ≡ cond b 1 0
byte true = refl
byte false = refl

pub returns : goal.returns
returns c = rw (c.capped_add.ensures, c.capped_add-2.ensures, c.capped_add-3.ensures, c.capped_add-4.ensures) (simp byte)
