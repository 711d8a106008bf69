-- What a call answers, a number, and what it leaves in the words and the places that it was lent. A refused call leaves what came.
use Rattle.std.specs.Prelude.{ℕ, Bool, List, [], ◌∷◌, Float, Err, Ok, Result}
use Rattle.math.specs.Bits.{bits_of}
use Rattle.refusal.specs.declared.Refusal.{Refusal}
use Rattle.refusal.specs.Number.{number_of}
use Rattle.bezier.specs.declared.types.Found.{Found}
use Rattle.words.specs.declared.fault.Fault.{Fault}
use Rattle.words.specs.Faults.{fault_number}
use Rattle.words.specs.Kinds.{unknown_word}
use Rattle.words.specs.Modes.{flag_word}
use Rattle.units.specs.declared.Progress.{Progress}
use Rattle.units.specs.declared.Seconds.{Seconds}

-- A is what was lent to be written
pub record Answer (A : Type 0) : Type 0 where
  pub number : ℕ
  pub left : A

abbrev pub answering : {A : Type 0} → ℕ → A → Answer A
answering n a = record { number = n; left = a }

abbrev pub accepted : {A : Type 0} → A → Answer A
accepted a = answering 0 a

abbrev pub refused : {A : Type 0} → A → Refusal → Answer A
refused came r = answering (number_of r) came

-- a word is no kind, no mode, no state
abbrev pub unknown : {A : Type 0} → A → Answer A
unknown came = answering unknown_word came

abbrev pub faulted : {A : Type 0} → A → Fault → Answer A
faulted came f = answering (fault_number f) came

unfoldable pub given_in : {A : Type 0} → A → Result A Refusal → Answer A
given_in came (Ok a) = accepted a
given_in came (Err r) = refused came r

-- four words: the value's bits, whether it is settled, and how many the search evaluated
abbrev pub found_words : Found → List ℕ
found_words f = bits_of f.value ∷ flag_word f.settled ∷ f.xs ∷ f.derivatives ∷ []

unfoldable pub found_in : List ℕ → Result Found Refusal → Answer (List ℕ)
found_in out (Ok f) = accepted (found_words f)
found_in out (Err r) = refused out r

unfoldable pub seconds_in : Float → Result Seconds Refusal → Answer Float
seconds_in out (Ok s) = accepted s.0
seconds_in out (Err r) = refused out r

unfoldable pub progress_in : Float → Result Progress Refusal → Answer Float
progress_in out (Ok p) = accepted p.0
progress_in out (Err r) = refused out r

abbrev pub flag_in : Bool → Answer ℕ
flag_in b = accepted (flag_word b)
