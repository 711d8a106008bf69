-- Document 01, "What the contracts must exclude": "Show that any two answers allowed by it are equal".
use Rattle.std.specs.Prelude.{◌≡◌}

-- of a contract `r ≡ d`: two answers that it allows are equal
abbrev pub OneAnswer : Type 1
OneAnswer = (A : Type 0) (d r s : A) → r ≡ d → s ≡ d → r ≡ s
