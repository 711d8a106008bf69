-- The number of a fault: the refusal's, or the one for words that are none.
use Rattle.std.specs.Prelude.{ℕ, ⊤, Result, Ok, Err}
use Rattle.refusal.specs.Number.{number_of}
use Rattle.words.specs.declared.fault.Fault.{Fault}
use Rattle.words.specs.declared.fault.Fault.TheVariants.{UnknownWord, Refused}
use Rattle.words.specs.Kinds.{unknown_word}

abbrev pub fault_number : Fault → ℕ
fault_number UnknownWord = unknown_word
fault_number (Refused r) = number_of r

-- 0 where there is no fault
abbrev pub faulted_number : Result ⊤ Fault → ℕ
faulted_number (Ok tt) = 0
faulted_number (Err f) = fault_number f
