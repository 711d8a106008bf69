-- What the numbers of a log show, and how its report ends.
use Rattle.std.specs.Prelude.{ℕ, Bool, false, cond, ◌||◌, nat_lt, Option, None, Some, Err, Ok, Result, ⊤}
use Rattle.audit.specs.declared.ending.End.{End}
use Rattle.audit.specs.declared.ending.End.TheVariants.{Whole, Lacking, Refused, Unreadable}
use Rattle.refusal.specs.declared.Refusal.{Refusal}

-- "A log from its beginning has the number 0 there": the first record has another. A log of no records has
-- no first number
abbrev pub late_of : Option ℕ → Bool
late_of None = false
late_of (Some number) = nat_lt 0 number

-- of two places, the first there is
abbrev pub earlier_of : Option ℕ → Option ℕ → Option ℕ
earlier_of None repeat = repeat
earlier_of (Some gap) None = Some gap
earlier_of (Some gap) (Some repeat) = Some (cond (nat_lt gap repeat) gap repeat)

-- the place from which on records are missing before a record, or may be: all of them where the beginning is,
-- else those from the first gap or the first repeat on
abbrev pub loss_of : Option ℕ → Option ℕ → Option ℕ → Option ℕ
loss_of first gap repeat = cond (late_of first) (Some 0) (earlier_of gap repeat)

-- unless the replay was refused
abbrev pub ended_of : Result ⊤ Refusal → End → End
ended_of (Ok tt) end = end
ended_of (Err refusal) end = Refused refusal

-- unreadable before refused, refused before what is missing
abbrev pub end_of : Bool → Result ⊤ Refusal → ℕ → ℕ → Option ℕ → End
end_of failed outcome gaps repeats first =
    cond failed Unreadable
    (ended_of outcome (cond (nat_lt 0 gaps || nat_lt 0 repeats || late_of first) Lacking Whole))
