-- Document 01, "The tween": "while elapsed is at least duration, one fold".
use Rattle.std.specs.Prelude.{ℕ, zero, suc, ◌+◌, ◌%◌, Bool, true, false, not, ◌&&◌, cond, leb, eqb, Float}
use Rattle.std.specs.Float.Ieee.{le}
use Rattle.math.specs.Rounded.{◌⊖◌}
use Rattle.loop_mode.specs.declared.Loop.{Loop}
use Rattle.loop_mode.specs.declared.Loop.TheVariants.{Once, Times, Forever, PingPong, PingPongTimes}
use Rattle.loop_mode.specs.Passes.{passes_of}
use Rattle.folds.specs.declared.Folding.{Folding}

-- "elapsed = duration, Completed", with loop_count n and reversed or not
abbrev pub completes : Float → ℕ → Bool → Folding → Folding
completes d n r p = record { elapsed = d; loop_count = n; ping_pong_reverse = r; completed = true; folds = p.folds + 1 }

-- "elapsed less duration", with loop_count n and reversed or not
abbrev pub goes_on : Float → ℕ → Bool → Folding → Folding
goes_on d n r p = record { elapsed = p.elapsed ⊖ d; loop_count = n; ping_pong_reverse = r; completed = false; folds = p.folds + 1 }

-- Once: "elapsed = duration, Completed". Times(n), PingPongTimes(n): "loop_count up by one; at n or more [..], elapsed = duration and Completed, and PingPongTimes sets loop_count to n and reversed exactly when n is even; below n, elapsed less duration, and PingPongTimes turns round". Forever, PingPong: "elapsed less duration; PingPong turns round. loop_count stays"
unfoldable pub fold_once : Loop → Float → Folding → Folding
fold_once Once d p = completes d p.loop_count p.ping_pong_reverse p
fold_once (Times n) d p =
    cond (leb (passes_of n) (p.loop_count + 1)) (completes d (p.loop_count + 1) p.ping_pong_reverse p)
    (goes_on d (p.loop_count + 1) p.ping_pong_reverse p)
fold_once (PingPongTimes n) d p =
    cond (leb (passes_of n) (p.loop_count + 1)) (completes d (passes_of n) (eqb (passes_of n % 2) 0) p)
    (goes_on d (p.loop_count + 1) (not p.ping_pong_reverse) p)
fold_once Forever d p = goes_on d p.loop_count p.ping_pong_reverse p
fold_once PingPong d p = goes_on d p.loop_count (not p.ping_pong_reverse) p

-- a fold is due: "elapsed is at least duration", and the tween is not completed
unfoldable pub due : Float → Folding → Bool
due d p = not p.completed && le d p.elapsed

-- folds while one is due, n at most; the Bool says whether one is
unfoldable pub folds_of : ℕ → Bool → Loop → Float → Folding → Folding
folds_of zero b l d p = p
folds_of (suc n) false l d p = p
folds_of (suc n) true l d p = let q = fold_once l d p in folds_of n (due d q) l d q
