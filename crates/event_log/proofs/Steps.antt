-- The step of an event: what is not above 0 is written as +0, and what it is refused for. Assumes nothing.
use Rattle.std.proofs.Common.{◌≡◌, Bool, true, false, not, ◌||◌, T, sym, refl, ap, ◌∙◌}
use mathlib.Core.Bool.{false≢true}
use lib.Ieee.{Float, nan, inf, fin, lt, is_nan, of_bits, to_bits}
use Rattle.math.specs.Bits.{bits_of}
use Rattle.math.specs.Rounded.{zero_f, top_f}
use Rattle.event_log.specs.declared.event.Event.{Event}
use Rattle.event_log.specs.Format.{step_of, pattern_of}
use Rattle.event_log.specs.Writing.{is_long, is_backward}

pub number : (x : Float) → lt zero_f x ≡ true → T (not (is_nan x))
unfolding lt is_nan of_bits
number nan h = absurd (false≢true h)
number (inf s) h = tt
number (fin s m e) h = tt

pub above : (x : Float) → lt zero_f x ≡ true → bits_of x ≡ pattern_of x
above x h = rw h refl

pub not-above : (x : Float) → lt zero_f x ≡ false → 0 ≡ pattern_of x
unfolding to_bits of_bits
not-above x h = rw h refl

-- what is seen of an event's step x is true of the event
pub seen-long : (x : Float) (e : Event) (b : Bool) → x ≡ step_of e → lt top_f x ≡ b → is_long e ≡ b
seen-long x e b p h = ap (lt top_f) (sym p) ∙ h

pub seen-backward : (x : Float) (n : Bool) (e : Event) (b : Bool) → x ≡ step_of e → n ≡ is_nan x → n || lt x zero_f ≡ b → is_backward e ≡ b
seen-backward x n e b p q h = ap (λ (y : Float). is_nan y || lt y zero_f) (sym p) ∙ (ap (λ (t : Bool). t || lt x zero_f) (sym q) ∙ h)
