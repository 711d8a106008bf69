-- Request 3, "Read it back and count the gaps": the records of a log, and when one is wrong. The format is request 2's.
use Rattle.std.specs.Prelude.{ℕ, ◌/◌, Bool, false, cond, not, ◌||◌, List, length, ◌==◌, nat_lt, slice_index, Float}
use Rattle.std.specs.Float.{nan, inf, fin}
use Rattle.math.specs.Bytes.{low_at}
use Rattle.math.specs.Lists.{split}
use Rattle.math.specs.Rounded.{f32}
use Rattle.event_log.specs.declared.event.Event.{Event}
use Rattle.event_log.specs.declared.event.Event.TheVariants.{Step, Pause, Resume, Reset}

-- "8-byte records", all of them; bytes of a tail are in none
abbrev pub records_of : List ℕ → List (List ℕ)
records_of bytes = split 8 (length bytes / 8) bytes

-- "one byte kind"
abbrev pub kind_in : List ℕ → ℕ
kind_in r = slice_index r 2

-- "one zero byte"
abbrev pub zero_in : List ℕ → ℕ
zero_in r = slice_index r 3

-- "the step's f32 bits in four bytes"; "numbers low byte first"
abbrev pub bits_in : List ℕ → ℕ
bits_in r = low_at 4 4 r

-- in seconds
abbrev pub step_in : List ℕ → Float
step_in r = f32 (bits_in r)

-- not "NaN, infinite, negative or -0": a finite number whose sign is not set
abbrev pub is_step : Float → Bool
is_step nan = false
is_step (inf s) = false
is_step (fin s m e) = not s

-- 18: "kind or zero byte wrong, a step that is NaN, infinite, negative or -0, or step bits not zero in another kind"
unfoldable pub is_wrong : List ℕ → Bool
is_wrong r =
    nat_lt (kind_in r) 1 || nat_lt 4 (kind_in r)
    || not (zero_in r == 0)
    || cond (kind_in r == 1) (not (is_step (step_in r))) (not (bits_in r == 0))

-- what a record that is not wrong says: "kind (1 step, 2 pause, 3 resume, 4 reset)"
unfoldable pub event_in : List ℕ → Event
event_in r =
    cond (kind_in r == 1) (Step (step_in r))
    (cond (kind_in r == 2) Pause
    (cond (kind_in r == 3) Resume
    Reset))
