-- The words of an answer. A refused call answers its number alone, an accepted one 0 and then what it answers.
use Rattle.std.specs.Prelude.{ℕ, Bool, List, [], ◌∷◌, Float, Err, Ok, Result}
use Rattle.refusal.specs.declared.Refusal.{Refusal}
use Rattle.refusal.specs.Number.{number_of}
use Rattle.words.specs.Kinds.{unknown_word}
use Rattle.words.specs.Modes.{flag_word}
use Rattle.rows.specs.Words.{word_of}
use Rattle.bezier.specs.declared.types.Found.{Found}
use Rattle.units.specs.declared.Progress.{Progress}
use Rattle.units.specs.declared.Seconds.{Seconds}

-- a word is no kind, no mode or no state
abbrev pub unknown_words : List ℕ
unknown_words = unknown_word ∷ []

abbrev pub refused_words : Refusal → List ℕ
refused_words refusal = number_of refusal ∷ []

abbrev pub accepted_words : List ℕ
accepted_words = 0 ∷ []

abbrev pub flag_words : Bool → List ℕ
flag_words b = 0 ∷ flag_word b ∷ []

abbrev pub float_words : Float → List ℕ
float_words x = 0 ∷ word_of x ∷ []

abbrev pub found_words : Found → List ℕ
found_words f = float_words f.value

-- the words of an answer, by those of what an accepted call answers
abbrev pub answer_words : {A : Type 0} → (A → List ℕ) → Result A Refusal → List ℕ
answer_words words (Ok answer) = words answer
answer_words words (Err refusal) = refused_words refusal

abbrev pub value_words : Result Found Refusal → List ℕ
value_words a = answer_words found_words a

abbrev pub seconds_words : Result Seconds Refusal → List ℕ
seconds_words a = answer_words (λ (s : Seconds). float_words s.0) a

abbrev pub progress_words : Result Progress Refusal → List ℕ
progress_words a = answer_words (λ (p : Progress). float_words p.0) a

abbrev pub equality_words : Result Bool Refusal → List ℕ
equality_words a = answer_words flag_words a

abbrev pub completion_words : Result Bool Refusal → List ℕ
completion_words a = answer_words flag_words a
