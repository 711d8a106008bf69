-- Request 3, "Read it back and count the gaps": what holds of every replay. Each sentence is a type; its proof has its name in small letters.
use Rattle.std.specs.Prelude.{◌≡◌, ℕ, suc, ◌+◌, ◌*◌, ◌/◌, ◌%◌, ◌<◌, ◌≤◌, Bool, true, cond, not, ◌||◌, T, List, [], ◌∷◌, ◌++◌, map, length, take, drop, replicate, ◌==◌, nat_lt, slice_index, Err, Ok, Result, Some}
use Rattle.std.specs.Float.{binary32}
use Rattle.std.specs.Float.Ieee.{fits}
use Rattle.math.specs.Lists.{every}
use Rattle.math.specs.Rounded.{whole_f}
use Rattle.tween.specs.declared.record.Tween.{Tween}
use Rattle.tween.specs.Limits.{within_of}
use Rattle.tween.specs.Calls.{reset_of}
use Rattle.history.specs.History.{Act, step, pause, resume, AllSmall, Past, after_all, fresh, scaled, Settings, Holds}
use Rattle.event_log.specs.declared.event.Event.{Event}
use Rattle.event_log.specs.declared.event.Event.TheVariants.{Step, Pause, Resume}
use Rattle.event_log.specs.Format.{step_of, log_of}
use Rattle.event_log.specs.Writing.{head_in, is_backward, may_be_logged, records_in}
use Rattle.reader.specs.declared.hear.Replay.{Replay}
use Rattle.reader.specs.declared.hear.Played.{Played}
use Rattle.reader.specs.Records.{records_of, event_in}
use Rattle.reader.specs.Hearing.{gap_of, is_repeat, capped, played_of}
use Rattle.reader.specs.Reading.{read_on_of, replay_of, joined}
use Rattle.refusal.specs.declared.Refusal.{Refusal}
use Rattle.refusal.specs.Refusing.{done}

-- what "a run of updates, pauses, resumes and resets alone" leaves: the tween, "its accepted calls, in order", and the folds of its updates
pub record RunLeft : Type 0 where
  pub tween : Tween
  pub calls : List Event
  pub folds : ℕ

-- a call of a run, and the rest; a refused one hands the tween back
abbrev pub left_with : Result Played Refusal → Event → Tween → (Tween → RunLeft) → RunLeft
left_with (Ok p) e t rest =
    let c = rest p.tween in
    record { tween = c.tween; calls = e ∷ c.calls; folds = p.folds + c.folds }
left_with (Err r) e t rest = rest t

unfoldable pub left_by : List Event → Tween → RunLeft
left_by [] t = record { tween = t; calls = []; folds = 0 }
left_by (e ∷ es) t = left_with (played_of t e) e t (left_by es)

-- the step is an f32, as that of every call is
abbrev pub is_f32 : Event → Bool
is_f32 e = fits binary32 (step_of e)

-- not 14
abbrev pub is_forward : Event → Bool
is_forward e = not (is_backward e)

-- "For a run of updates, pauses, resumes and resets alone, a log by our writer that holds just its accepted calls, in order, gives no gaps and, from the same tween, the tween that the run left": the writer takes the calls, and what it wrote is read to its end, with nothing missing and the run's folds
abbrev pub GivesBack : Type 0
GivesBack =
    (t : Tween) (es : List Event) (buffer list : List ℕ) → within_of t ≡ true → T (every is_f32 es) → T (every is_forward es)
    → let run = left_by es t in
    let n = length run.calls in 5 + 8 * n ≤ length buffer → n ≤ length list
    → let w = records_in run.calls (head_in buffer) in
    let c = replay_of t (take (5 + 8 * n) w.buffer) list in
    (w.answer ≡ Ok (5 + 8 * n))
    × (c.gaps ≡ replicate n 0)
    × (c.outcome ≡ done)
    × (c.replay.tween ≡ run.tween)
    × (c.replay.missing ≡ 0)
    × (c.replay.folds ≡ capped run.folds)

-- a log without k of its records, from the one at place i on
abbrev pub without : ℕ → ℕ → List ℕ → List ℕ
without i k log = take (5 + 8 * i) log ++ drop (5 + 8 * (i + k)) log

-- "how many are missing before it", where k consecutive records, from 1 to 65,534, are dropped from the middle of a log by our writer: exactly k before the first record behind them, none before any other; and the total is k once that record is read
abbrev pub CountsDropped : Type 0
CountsDropped =
    (t : Tween) (es : List Event) (i k : ℕ) (list : List ℕ) → T (every is_f32 es) → T (every may_be_logged es)
    → 1 ≤ i → 1 ≤ k → k ≤ 65534 → i + k < length es
    → let c = replay_of t (without i k (log_of es)) list in
    ((j : ℕ) → j < length c.gaps → slice_index c.gaps j ≡ cond (j == i) k 0)
    × (c.replay.missing ≡ cond (nat_lt i (length c.gaps)) k 0)

-- "A loss of 65,535 or more can't be told rightly": of k numbers that were lost, the gap tells k modulo 65,536
abbrev pub GapLost : Type 0
GapLost = (n k : ℕ) → gap_of (Some (n % 65536)) ((n + suc k) % 65536) ≡ k % 65536

-- an act of demand 3, as a log has it
abbrev pub event_of : Act → Event
event_of (step n) = Step (whole_f n)
event_of pause = Pause
event_of resume = Resume

-- "no gap": of each record that was read the list has 0, or 65,535 for a repeat
abbrev pub no_gap : List ℕ → Bool
no_gap gaps = every (λ gap. (gap == 0) || is_repeat gap) gaps

-- a repeat "is not replayed": the records that were read, by their gaps, without the repeats
abbrev pub without_repeats : List (List ℕ) → List ℕ → List (List ℕ)
without_repeats [] gaps = []
without_repeats (r ∷ rs) [] = []
without_repeats (r ∷ rs) (gap ∷ gaps) = cond (is_repeat gap) (without_repeats rs gaps) (r ∷ without_repeats rs gaps)

-- "Demand 3 holds for a replay, from its tween and whole steps, with no gap and no reset record, its folds being that sum, short of the cap". The records that were read, without the repeats, tell of the acts
abbrev pub ReplayDemand3 : Type 0
ReplayDemand3 =
    (t u : Tween) (D W s : ℕ) → Settings t D W s → reset_of t ≡ Ok u
    → (log list : List ℕ) (acts : List Act) → AllSmall acts
    → let c = replay_of u log list in
    map event_in (without_repeats (records_of (drop 5 log)) c.gaps) ≡ map event_of acts
    → no_gap c.gaps ≡ true
    → c.replay.folds < 18446744073709551615
    → let h : Past = record { tween = c.replay.tween; taken = (after_all (fresh u) acts).taken; made = c.replay.folds } in
    Holds t.looping D s (scaled s W h.taken) h

-- neither 17 nor 12: the bytes are whole records, and the list has a place for each
abbrev pub Fits : List ℕ → List ℕ → Type 0
Fits bytes list = (length bytes % 8 ≡ 0) × (length bytes / 8 ≤ length list)

-- added: a log can be read in parts, and part after part gives what the whole gives. first and second are the lists that are lent for the parts, list the one for the whole
abbrev pub PartByPart : Type 0
PartByPart =
    (s : Replay) (bytes more first second list : List ℕ) → Fits bytes first → Fits more second → Fits (bytes ++ more) list
    → read_on_of s (bytes ++ more) list ≡ joined (read_on_of s bytes first) (λ u. read_on_of u more second)

-- and so for the first part, which has the head
abbrev pub LogPartByPart : Type 0
LogPartByPart =
    (t : Tween) (log more first second list : List ℕ)
    → 5 ≤ length log → Fits (drop 5 log) first → Fits more second → Fits (drop 5 (log ++ more)) list
    → replay_of t (log ++ more) list ≡ joined (replay_of t log first) (λ u. read_on_of u more second)
