-- The log of the manual; and what follows record 65,535. Assumes nothing.
use Rattle.std.proofs.Common.{◌≡◌, [], ◌∷◌, refl}
use lib.Ieee.{lt, of_bits, to_bits}
use Rattle.event_log.specs.declared.event.Event.TheVariants.{Pause}
use Rattle.event_log.specs.Format.{records_from}
use Rattle.event_log.specs.Promises.{SmallLog}

pub small-log : SmallLog
unfolding records_from of_bits to_bits lt
small-log = refl

pub number-wraps : records_from 65535 (Pause ∷ Pause ∷ []) ≡ 0xff ∷ 0xff ∷ 2 ∷ 0 ∷ 0 ∷ 0 ∷ 0 ∷ 0 ∷ 0 ∷ 0 ∷ 2 ∷ 0 ∷ 0 ∷ 0 ∷ 0 ∷ 0 ∷ []
unfolding records_from of_bits to_bits lt
number-wraps = refl
