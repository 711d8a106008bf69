-- What the inner steps of a replay promise. They are the code's: request 3 has none of them.
use Rattle.std.specs.Prelude.{◌≡◌, ℕ, ◌+◌, true, List, None, Option, Some, Ok}
use Rattle.tween.specs.declared.record.Tween.{Tween}
use Rattle.tween.specs.Limits.{within_of}
use Rattle.tween.specs.Inner.{placed}
use Rattle.event_log.specs.declared.event.Event.{Event}
use Rattle.reader.specs.declared.skim.Skimmed.{Skimmed}
use Rattle.reader.specs.Hearing.{capped, played_of, heard_of}

-- the quick way of an event, and of a record: where it is unsure it promises nothing
abbrev pub SkimsStep : Tween → ℕ → ℕ → Event → Option Skimmed → Type 0
SkimsStep t n g e (Some s) =
    (s.number ≡ n)
    × (s.gap ≡ g)
    × (played_of t e ≡ Ok (record { tween = placed t s.glided.waited s.glided.folding; folds = s.glided.folding.folds }))
    × (within_of (placed t s.glided.waited s.glided.folding) ≡ true)
SkimsStep t n g e None = Unit {0}

abbrev pub Skims : Tween → Option ℕ → List ℕ → Option Skimmed → Type 0
Skims t last bytes (Some s) =
    let u = placed t s.glided.waited s.glided.folding in
    ((missing folds : ℕ)
    → heard_of (record { tween = t; last = last; missing = missing; folds = folds }) bytes
    ≡ Ok (record { gap = s.gap; reached = record { tween = u; last = Some s.number; missing = capped (missing + s.gap); folds = capped (folds + s.glided.folding.folds) } }))
    × (within_of u ≡ true)
Skims t last bytes None = Unit {0}
