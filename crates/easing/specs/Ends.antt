-- Document 01, "What is ported" and "Easing": the 26 kinds of the list, and "The source's head says each named kind gives 0 at 0 and 1 at 1. Prove it for the 26 at their `all_named` parameters; an exception is listed".
use Rattle.std.specs.Prelude.{ℕ, ◌<◌, ◌≡◌, Bool, true, false, ◌&&◌, cond, eqb, length, get_or, Float, Err, Ok, Result}
use mathlib.Core.List.{List, [], ◌∷◌, map, Memᴰ}
use Rattle.std.specs.Float.Ieee.{eq}
use Rattle.math.specs.Bits.{bits_of}
use Rattle.math.specs.Rounded.{zero_f, one_f}
use Rattle.easing.specs.declared.kinds.Easing.{Easing}
use Rattle.easing.specs.declared.kinds.Easing.TheVariants.{Linear}
use Rattle.easing.specs.Kinds.{number_of, supplied_of, all_named}
use Rattle.easing.specs.Apply.{apply_of}
use Rattle.bezier.specs.declared.types.Found.{Found}
use Rattle.refusal.specs.declared.Refusal.{Refusal}

-- the supplied part of a list of kinds
abbrev pub supplied_in : List Easing → List Easing
supplied_in [] = []
supplied_in (e ∷ es) = cond (supplied_of e) (e ∷ supplied_in es) (supplied_in es)

-- "The supplied easing kinds number 26"
abbrev pub SuppliedNumber : Type 0
SuppliedNumber = length (supplied_in all_named) ≡ 26

-- the place of each kind in the list of the 38 is its number
abbrev pub Numbered : Type 0
Numbered = (length all_named ≡ 38) × ((k : ℕ) → k < length all_named → number_of (get_or all_named k Linear) ≡ k)

-- the answer is a value, and equal to v; a zero of either sign is 0
abbrev pub equals : Result Found Refusal → Float → Bool
equals (Ok f) v = eq f.value v
equals (Err r) v = false

-- 0 at 0, and 1 at 1
abbrev pub ended : Easing → Bool
ended e = equals (apply_of e zero_f) zero_f && equals (apply_of e one_f) one_f

-- over the list, so that no kind can be left out
abbrev pub Ends : Type 0
Ends = (e : Easing) → Memᴰ e (supplied_in all_named) → ended e ≡ true

-- by bits; 1, which is no zero's pattern, for a refusal
abbrev pub bits : Result Found Refusal → ℕ
bits (Ok f) = bits_of f.value
bits (Err r) = 1

abbrev pub at : Float → List Easing → List ℕ
at t [] = []
at t (e ∷ es) = bits (apply_of e t) ∷ at t es

-- "an exception is listed": each is +0 at +0 but for EaseInOutBack, number 24, which is -0
abbrev pub zero_of : Easing → ℕ
zero_of e = cond (eqb (number_of e) 24) 0x8000_0000 0

abbrev pub Zeros : Type 0
Zeros = at zero_f (supplied_in all_named) ≡ map zero_of (supplied_in all_named)
