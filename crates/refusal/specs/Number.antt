-- Document 01, "Refusal numbers", and the later requests: the number of each refusal, in the table's order.
use Rattle.std.specs.Prelude.{ℕ}
use Rattle.refusal.specs.declared.Refusal.{Refusal}
use Rattle.refusal.specs.declared.Refusal.TheVariants.{ProgressIsNan, EasingNotSupplied, EasingParameter, RecordBreaksLimit, StepTooLong, StepLost, TooManyFolds, ElapsedTooLong, TrackFull, NoFrames, TrackLimit, OutputTooShort, NoRoom, StepBelowZero, WrongMark, UnknownVersion, WrongLength, WrongRecord}

abbrev pub number_of : Refusal → ℕ
number_of ProgressIsNan = 1
number_of EasingNotSupplied = 2
number_of EasingParameter = 3
number_of RecordBreaksLimit = 4
number_of StepTooLong = 5
number_of StepLost = 6
number_of TooManyFolds = 7
number_of ElapsedTooLong = 8
number_of TrackFull = 9
number_of NoFrames = 10
number_of TrackLimit = 11
number_of OutputTooShort = 12
number_of NoRoom = 13
number_of StepBelowZero = 14
number_of WrongMark = 15
number_of UnknownVersion = 16
number_of WrongLength = 17
number_of WrongRecord = 18
