-- What the common way of a value says.
use Rattle.std.specs.Prelude.{ℕ, ◌≡◌, not, cond, List, eqb, Float, Ok, Option, Some, None}
use Rattle.math.specs.Blend.{blend_of}
use Rattle.bezier.specs.declared.types.Found.{Found}
use Rattle.bezier.specs.Bezier.{plain_of}
use Rattle.tween.specs.declared.record.Tween.{Tween}
use Rattle.tween.specs.Calls.{value_of}
use Rattle.words.specs.Tweens.{tween_from}
use Rattle.words.specs.Lent.{word_at, float_at, tween_in}
use Rattle.tween_words.specs.declared.valuing.Valued.{Valued}
use Rattle.tween_words.specs.declared.valuing.Valued.TheVariants.{Plain, Searched}

-- "ends exchanged while ping_pong_reverse"
abbrev pub blended : List ℕ → Float → Float
blended ws c = cond (not (eqb (word_at ws 17) 0)) (blend_of (float_at ws 1) (float_at ws 0) c) (blend_of (float_at ws 0) (float_at ws 1) c)

-- the tween that is read has this value
pub record Values (ws : List ℕ) (found : Found) : Type 0 where
  pub from : Tween
  pub read : tween_from (tween_in ws) ≡ Some from
  pub value : value_of from ≡ Ok found

abbrev pub ValuesTo : List ℕ → Option Valued → Type 0
ValuesTo ws (Some (Plain v)) = Values ws (plain_of v)
ValuesTo ws (Some (Searched f)) = Values ws f
ValuesTo ws None = Unit {0}
