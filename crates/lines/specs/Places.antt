-- Where a word stands in a text, and where its next line begins.
use Rattle.std.specs.Prelude.{ℕ, ◌≤◌, ◌<◌, List, length}
use Rattle.lines.specs.declared.word.Word.{Word}

-- a word of the text
pub record Within (text : List ℕ) (w : Word) : Type 0 where
  pub forward : w.from ≤ w.to
  pub inside : w.to ≤ length text

-- a line further on, unless there is none
pub record Onward (text : List ℕ) (place next : ℕ) : Type 0 where
  pub inside : next ≤ length text
  pub further : place < length text → place < next
