-- Request 3, "Read it back and count the gaps": what one record comes to.
use Rattle.std.specs.Prelude.{ℕ, ◌+◌, ◌-◌, ◌%◌, min, Bool, cond, List, ◌==◌, Err, None, Ok, Option, Result, Some}
use Rattle.refusal.specs.declared.Refusal.TheVariants.{WrongRecord}
use Rattle.refusal.specs.Refusing.{when}
use Rattle.tween.specs.declared.record.Tween.{Tween}
use Rattle.tween.specs.declared.answers.Updated.{Updated}
use Rattle.tween.specs.Calls.{reset_of, pause_of, resume_of}
use Rattle.tween.specs.Update.{update_of}
use Rattle.event_log.specs.declared.event.Event.{Event}
use Rattle.event_log.specs.declared.event.Event.TheVariants.{Step, Pause, Resume, Reset}
use Rattle.event_log.specs.Writing.{number_at}
use Rattle.reader.specs.declared.hear.Replay.{Replay}
use Rattle.reader.specs.declared.hear.Played.{Played}
use Rattle.reader.specs.declared.hear.Heard.{Heard}
use Rattle.reader.specs.Records.{is_wrong, event_in}
use Rattle.refusal.specs.declared.Refusal.{Refusal}
use Rattle.refusal.specs.declared.rejected.Rejected.{Rejected}

-- "the 16-bit difference, wrapping", of 16-bit numbers
abbrev pub less : ℕ → ℕ → ℕ
less a b = (a + 65536 - b) % 65536

-- "(0 for the first) how many are missing before it: the 16-bit difference, wrapping, less one"
abbrev pub gap_of : Option ℕ → ℕ → ℕ
gap_of None number = 0
gap_of (Some last) number = less (less number last) 1

-- "The same number again gives 65,535, is a repeat"
abbrev pub is_repeat : ℕ → Bool
is_repeat gap = gap == 65535

-- "stay at 18,446,744,073,709,551,615 where they would pass it"
abbrev pub capped : ℕ → ℕ
capped n = min n 18446744073709551615

-- an update's tween and folds, or why it is refused
abbrev pub by_update : Result Updated (Rejected Tween) → Result Played Refusal
by_update (Ok u) = Ok (record { tween = u.tween; folds = u.folds })
by_update (Err r) = Err r.refusal

-- no other call folds
abbrev pub by_change : Result Tween (Rejected Tween) → Result Played Refusal
by_change (Ok u) = Ok (record { tween = u; folds = 0 })
by_change (Err r) = Err r.refusal

-- the call that a record tells of, made on the tween
unfoldable pub played_of : Tween → Event → Result Played Refusal
played_of t (Step x) = by_update (update_of t x)
played_of t Pause = by_change (pause_of t)
played_of t Resume = by_change (resume_of t)
played_of t Reset = by_change (reset_of t)

-- behind the call: "The total missing is the sum"; "the folds of all replayed updates, summed". "A call refused by the tween [..] stops the replay there"
abbrev pub further : Result Played Refusal → Replay → ℕ → ℕ → Result Heard Refusal
further (Ok p) s number gap =
    Ok (record { gap = gap; reached = record { tween = p.tween; last = Some number; missing = capped (s.missing + gap); folds = capped (s.folds + p.folds) } })
further (Err r) s number gap = Err r

-- a record: "18 [..] when its record is reached, repeats too"; a repeat "is not replayed", and the total is "without repeats"
unfoldable pub heard_of : Replay → List ℕ → Result Heard Refusal
heard_of s r =
    let number = number_at r 0 in
    let gap = gap_of s.last number in
    when (is_wrong r) (Err WrongRecord)
    (cond (is_repeat gap) (Ok (record { gap = gap; reached = s }))
    (further (played_of s.tween (event_in r)) s number gap))
