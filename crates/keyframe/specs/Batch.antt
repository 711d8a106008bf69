-- Document 01, "The track": "Many times at once".
use Rattle.std.specs.Prelude.{◌≡◌, ℕ, ◌<◌, ◌≤◌, false, List, length, ◌==◌, nat_le, nat_lt, slice_index_or, Float}
use Rattle.std.specs.Float.{nan}
use Rattle.refusal.specs.declared.Refusal.{Refusal}
use Rattle.refusal.specs.declared.Refusal.TheVariants.{RecordBreaksLimit, NoFrames, OutputTooShort}
use Rattle.refusal.specs.Number.{number_of}
use Rattle.refusal.specs.Refusing.{unless}
use Rattle.frames.specs.Sampling.{sample_of, filled_of, unsettled_of}
use Rattle.keyframe.specs.declared.types.Track.{Track}
use Rattle.keyframe.specs.declared.types.Filled.{Filled}
use Rattle.keyframe.specs.Limits.{frames_in, within_of}

-- "The refusal number, 0 for none": 4, 10, 12
unfoldable pub batch_number : Track → List Float → List Float → ℕ
batch_number t times out =
    unless (within_of t) (number_of RecordBreaksLimit)
    (unless (nat_lt 0 t.count) (number_of NoFrames)
    (unless (nat_le (length times) (length out)) (number_of OutputTooShort)
    0))

-- "what lies behind it keeps its numbers"; "a refused call .. writes nothing else"
unfoldable pub batch_out : Track → List Float → List Float → List Float
batch_out t times out = unless (batch_number t times out == 0) out (filled_of (frames_in t) times out)

-- the length of the filled front; "a refused call hands back an empty front"
unfoldable pub batch_count : Track → List Float → List Float → ℕ
batch_count t times out = unless (batch_number t times out == 0) 0 (length times)

-- Request 1: "The batch writes how many of its samples weren't into one more lent number, 0 when refused; document 01's "nothing else" gives way there"
unfoldable pub batch_unsettled : Track → List Float → List Float → ℕ
batch_unsettled t times out = unless (batch_number t times out == 0) 0 (unsettled_of (frames_in t) times)

-- the answer beside the lent output: the length of the front, request 1's count, "The refusal number, 0 for none"
abbrev pub batch_answer : Track → List Float → List Float → Filled
batch_answer t times out =
    record { filled = batch_count t times out; unsettled = batch_unsettled t times out; refusal = batch_number t times out }

-- "a refused call hands back an empty front"
abbrev pub none_filled : Refusal → Filled
none_filled r = record { filled = 0; unsettled = 0; refusal = number_of r }

-- "its promise at each index": an accepted batch has the sample at each time
abbrev pub BatchAt : Type 0
BatchAt =
    (t : Track) (times out : List Float) → batch_number t times out ≡ 0
    → (k : ℕ) → k < length times → slice_index_or (batch_out t times out) k nan ≡ (sample_of (frames_in t) (slice_index_or times k nan)).value

-- "what lies behind it keeps its numbers"
abbrev pub BatchBehind : Type 0
BatchBehind = (t : Track) (times out : List Float) (k : ℕ) → length times ≤ k → slice_index_or (batch_out t times out) k nan ≡ slice_index_or out k nan

-- "a refused call hands back an empty front and writes nothing else", but for request 1's 0
abbrev pub BatchRefused : Type 0
BatchRefused =
    (t : Track) (times out : List Float) → (batch_number t times out == 0) ≡ false
    → (batch_out t times out ≡ out) × (batch_count t times out ≡ 0) × (batch_unsettled t times out ≡ 0)
