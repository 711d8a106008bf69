-- The quick way of a record comes to what the record comes to. Assumes nothing.
use Rattle.std.specs.Prelude.{None, Option}
use Rattle.std.proofs.Common.{◌≡◌, ℕ, false, List, sym, refl, ap, Some}
use lib.Ieee.{Float}
use Rattle.tween.specs.declared.update.Glided.{Glided}
use Rattle.tween.specs.declared.record.Tween.{Tween}
use Rattle.tween.specs.Inner.{Glides}
use Rattle.tween.proofs.Glides.{goes_to, glide-within}
use Rattle.event_log.specs.declared.event.Event.{Event}
use Rattle.event_log.specs.declared.event.Event.TheVariants.{Step}
use Rattle.event_log.specs.Writing.{number_at}
use Rattle.reader.specs.declared.skim.Skimmed.{Skimmed}
use Rattle.reader.specs.Records.{is_wrong, event_in}
use Rattle.reader.specs.Hearing.{gap_of, by_update, played_of}
use Rattle.reader.specs.Inner.{SkimsStep, Skims}
use Rattle.reader.proofs.Heard.{hears-played}

pub skims-step : (t : Tween) (n g : ℕ) (x : Float) (s : Glided) → Glides t x (Some s) → SkimsStep t n g (Step x) (Some (record { number = n; gap = g; glided = s }))
unfolding played_of
skims-step t n g x s h = (refl, refl, ap by_update (goes_to t x s h), glide-within t x s h)

pub skims : (t : Tween) (last : Option ℕ) (bytes : List ℕ) (n g : ℕ) (e : Event) (r : Option Skimmed) → is_wrong bytes ≡ false → n ≡ number_at bytes 0 → g ≡ gap_of last n → (g ≡ 65535 → ⊥) → e ≡ event_in bytes
    → SkimsStep t n g e r → Skims t last bytes r
skims t last bytes n g e (Some s) right N G new E (q, v, played, within) = (
  λ missing folds. rw (q, v) (hears-played (record { tween = t; last = last; missing = missing; folds = folds }) bytes right n g N G new e _ E (sym played)),
  within,
)
skims t last bytes n g e None right N G new E h = tt
