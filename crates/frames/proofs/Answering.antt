-- Between two frames within their limits, at a time from 0 to 16,777,216, the easing answers: that a refusal counts as 0 never shows. Assumes nothing.
use Rattle.std.specs.Prelude.{Ok}
use mathlib.Core.Path.{◌≡◌}
use mathlib.Core.Bool.{true, false}
use lib.Ieee.{Float, is_nan}
use denote.Floats.{passes as holds}
use Rattle.math.specs.Rounded.{one_f}
use Rattle.math.proofs.Order.{le-numbers}
use Rattle.easing.specs.declared.kinds.Easing.{Easing}
use Rattle.easing.specs.Apply.{apply_of, fits_record_of}
use Rattle.frames.specs.Sampling.{local_progress, eased_of}
use Rattle.frames.specs.Promises.{BetweenAnswers}
use Rattle.frames.proofs.Rising.{time-fine, easing-fine}
use Rattle.frames.proofs.Clocks.{time-clock}
use Rattle.frames.proofs.Samples.{local-within}
use Rattle.easing.proofs.Answering.{fits-answers}

eased-answers : (e : Easing) (p : Float) → fits_record_of e ≡ true → is_nan p ≡ false → apply_of e p ≡ Ok (eased_of e p)
eased-answers e p h n =
    let k = fits-answers e p (holds (fits_record_of e) h) n in
    rw k.1

pub between-answers : BetweenAnswers
between-answers k l t f g c =
    let w = local-within t k.time l.time c (time-clock k.time (time-fine k f)) (time-clock l.time (time-fine l g)) in
    eased-answers k.easing (local_progress k.time l.time t) (easing-fine k f) (le-numbers (local_progress k.time l.time t) one_f w.1).0
