-- Request 2, "Write the event log": the format, in its order. A log is a list of bytes.
use Rattle.std.specs.Prelude.{ℕ, ◌+◌, ◌%◌, Bool, true, false, ◌&&◌, List, [], ◌∷◌, ◌++◌, ◌==◌, Float}
use Rattle.math.specs.Bits.{bits_of}
use Rattle.math.specs.Bytes.{low_first}
use Rattle.math.specs.Rounded.{zero_f}
use Rattle.math.specs.Range.{max_zero_of}
use Rattle.event_log.specs.declared.event.Event.{Event}
use Rattle.event_log.specs.declared.event.Event.TheVariants.{Step, Pause, Resume, Reset}

-- "the three bytes `PEL`"
abbrev pub mark : List ℕ
mark = 0x50 ∷ 0x45 ∷ 0x4c ∷ []

-- "a 16-bit version, now 1"; "numbers low byte first"
abbrev pub version : List ℕ
version = low_first 2 1

-- "A log begins with" them
abbrev pub head : List ℕ
head = mark ++ version

-- "one byte kind (1 step, 2 pause, 3 resume, 4 reset)"
abbrev pub kind_of : Event → ℕ
kind_of (Step x) = 1
kind_of Pause = 2
kind_of Resume = 3
kind_of Reset = 4

-- what an event steps by, in seconds: no step is +0
abbrev pub step_of : Event → Float
step_of (Step x) = x
step_of Pause = zero_f
step_of Resume = zero_f
step_of Reset = zero_f

-- "A step of -0 is written as +0"
abbrev pub pattern_of : Float → ℕ
pattern_of x = bits_of (max_zero_of x)

-- "the step's f32 bits [..] (zero unless kind 1)": those of +0 are zero
abbrev pub step_bits : Event → ℕ
step_bits e = pattern_of (step_of e)

-- "8-byte records: a 16-bit sequence number, one byte kind [..], one zero byte, and the step's f32 bits in four bytes"
abbrev pub record_of : ℕ → Event → List ℕ
record_of number e = low_first 2 number ++ (kind_of e ∷ 0 ∷ low_first 4 (step_bits e))

-- "each by the one before plus one, and 65,535 is followed by 0"
abbrev pub next : ℕ → ℕ
next number = (number + 1) % 65536

-- records one behind the other, the first of them with this number
unfoldable pub records_from : ℕ → List Event → List ℕ
records_from number [] = []
records_from number (e ∷ es) = record_of number e ++ records_from (next number) es

-- the log of these events: "Records are numbered from 0"
abbrev pub log_of : List Event → List ℕ
log_of es = head ++ records_from 0 es

-- whether bytes stand at the start of others
abbrev pub starts_with : List ℕ → List ℕ → Bool
starts_with [] l = true
starts_with (b ∷ bs) [] = false
starts_with (b ∷ bs) (x ∷ l) = x == b && starts_with bs l
