-- Document 01, "Records and their limits" and "The tween": the pass numbers of the five modes.
use Rattle.std.specs.Prelude.{ℕ, Bool, true, cond, leb, eqb, None, Option, Some}
use Rattle.loop_mode.specs.declared.Loop.{Loop}
use Rattle.loop_mode.specs.declared.Loop.TheVariants.{Once, Times, Forever, PingPong, PingPongTimes}

-- "0 counts as 1"
abbrev pub passes_of : ℕ → ℕ
passes_of n = cond (eqb n 0) 1 n

-- "the pass limit is 1 for Once, n for the two with n, none for the others"
unfoldable pub limit_of : Loop → Option ℕ
limit_of Once = Some 1
limit_of (Times n) = Some (passes_of n)
limit_of (PingPongTimes n) = Some (passes_of n)
limit_of Forever = None
limit_of PingPong = None

-- "Pass numbers of Times and PingPongTimes are at most 65,535"
abbrev pub most_passes : ℕ
most_passes = 65535

unfoldable pub within_of : Loop → Bool
within_of Once = true
within_of (Times n) = leb n most_passes
within_of (PingPongTimes n) = leb n most_passes
within_of Forever = true
within_of PingPong = true
