-- What a test tells. Assumes nothing.
use mathlib.Core.Bool.{true, false, false≢true}
use mathlib.Core.Path.{refl}
use Rattle.rows.specs.Words.{Tells}

module _ {P : Type 0} where
  pub yes : P → Tells true P
  yes p = (λ h. p, λ q. refl)

  pub no : (P → ⊥) → Tells false P
  no f = (λ h. absurd (false≢true h), λ p. absurd (f p))
