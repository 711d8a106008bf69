-- `number` meets its contract: each arm is told its refusal, at which the definition computes. Assumes nothing.
use Rattle.refusal.proofs.Refusal.number.Goals as goal

pub returns-in-ProgressIsNan : goal.returns-in-ProgressIsNan
returns-in-ProgressIsNan c = simp c.in-ProgressIsNan.is

pub returns-in-EasingNotSupplied : goal.returns-in-EasingNotSupplied
returns-in-EasingNotSupplied c = simp c.in-EasingNotSupplied.is

pub returns-in-EasingParameter : goal.returns-in-EasingParameter
returns-in-EasingParameter c = simp c.in-EasingParameter.is

pub returns-in-RecordBreaksLimit : goal.returns-in-RecordBreaksLimit
returns-in-RecordBreaksLimit c = simp c.in-RecordBreaksLimit.is

pub returns-in-StepTooLong : goal.returns-in-StepTooLong
returns-in-StepTooLong c = simp c.in-StepTooLong.is

pub returns-in-StepLost : goal.returns-in-StepLost
returns-in-StepLost c = simp c.in-StepLost.is

pub returns-in-TooManyFolds : goal.returns-in-TooManyFolds
returns-in-TooManyFolds c = simp c.in-TooManyFolds.is

pub returns-in-ElapsedTooLong : goal.returns-in-ElapsedTooLong
returns-in-ElapsedTooLong c = simp c.in-ElapsedTooLong.is

pub returns-in-TrackFull : goal.returns-in-TrackFull
returns-in-TrackFull c = simp c.in-TrackFull.is

pub returns-in-NoFrames : goal.returns-in-NoFrames
returns-in-NoFrames c = simp c.in-NoFrames.is

pub returns-in-TrackLimit : goal.returns-in-TrackLimit
returns-in-TrackLimit c = simp c.in-TrackLimit.is

pub returns-in-OutputTooShort : goal.returns-in-OutputTooShort
returns-in-OutputTooShort c = simp c.in-OutputTooShort.is

pub returns-in-NoRoom : goal.returns-in-NoRoom
returns-in-NoRoom c = simp c.in-NoRoom.is

pub returns-in-StepBelowZero : goal.returns-in-StepBelowZero
returns-in-StepBelowZero c = simp c.in-StepBelowZero.is

pub returns-in-WrongMark : goal.returns-in-WrongMark
returns-in-WrongMark c = simp c.in-WrongMark.is

pub returns-in-UnknownVersion : goal.returns-in-UnknownVersion
returns-in-UnknownVersion c = simp c.in-UnknownVersion.is

pub returns-in-WrongLength : goal.returns-in-WrongLength
returns-in-WrongLength c = simp c.in-WrongLength.is

pub returns-in-WrongRecord : goal.returns-in-WrongRecord
returns-in-WrongRecord c = simp c.in-WrongRecord.is
