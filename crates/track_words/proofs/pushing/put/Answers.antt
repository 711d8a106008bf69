-- `put` meets its contract, by where the row goes. Assumes nothing.
use Prim.Native.Nat.{◌≤◌, ◌<◌, ◌*◌}
use mathlib.Core.Path.{◌≡◌}
use mathlib.Core.Bool.{true, false}
use native.Mathlib.Omega.{arith}
use lib.Ieee.{eq}
use Rattle.words.specs.Lent.{word_at, float_at}
use Rattle.track_words.specs.Pushing.{place_of, replaces}
use Rattle.track_words.proofs.Passed.{passed-few}
use Rattle.track_words.proofs.Rows.{same-room, same-words, other-time, other-end, new-room, new-words}
use Rattle.track_words.proofs.pushing.put.Goals as goal
use Rattle.track_words.proofs.pushing.put.Goals.{After-count-n, After-earlier-p, Joined-p-n, then-p-n+else-float_at-time, else-p-n}

few : (c : After-count-n) → c.count-n.result ≤ 64
few c =
    let p = passed-few c.args.w.now c.requires in
    omega (arith, c.count-n.ensures)

-- the row's place
place : (c : After-earlier-p) → c.earlier-p.result ≡ place_of c.args.w.now c.args.row.now
place c = rw (c.of_bits-time.ensures, c.count-n.ensures) at c.earlier-p.ensures.1

-- where the two ways meet, no frame has the time
other : (c : Joined-p-n) → c.earlier-p.result ≡ place_of c.args.w.now c.args.row.now → replaces c.args.w.now c.args.row.now ≡ false
other c here =
    elim c.if-p-n.branch [
      | then-p-n+else-float_at-time w ↦ other-time c.args.w.now c.args.row.now (rw (← here, ← c.of_bits-time.ensures, ← w.float_at.ensures) w.if-float_at-time.false)
      | else-p-n w ↦ other-end c.args.w.now c.args.row.now (rw (← here, ← c.count-n.ensures) w.if-p-n.false)
    ]

pub earlier-p-requires : goal.earlier-p-requires
earlier-p-requires c = few (goal.at.earlier-p-requires c).After-count-n

pub float_at-requires : goal.float_at-requires
float_at-requires c = let h = few (goal.at.float_at-requires c).After-count-n in omega arith

pub put_row-requires : goal.put_row-requires
put_row-requires c = let h = few (goal.at.put_row-requires c).After-count-n in omega arith

pub returns-then-float_at-time : goal.returns-then-float_at-time
returns-then-float_at-time c = let ws = c.args.w.now in let row = c.args.row.now in let below : place_of ws row < word_at ws 512 = rw (← place (goal.at.returns-then-float_at-time c).After-earlier-p, ← c.count-n.ensures) c.if-p-n.true in
    let same : eq (float_at ws (8 * place_of ws row)) (float_at row 0) ≡ true = rw (← place (goal.at.returns-then-float_at-time c).After-earlier-p, ← c.of_bits-time.ensures, ← c.float_at.ensures) c.if-float_at-time.true in
    record { room = same-room ws row below same; words = rw (c.put_row.ensures, place (goal.at.returns-then-float_at-time c).After-earlier-p, c.count-n.ensures) (same-words ws row below same) }

pub returns-then-n-lt64 : goal.returns-then-n-lt64
returns-then-n-lt64 c = let ws = c.args.w.now in let row = c.args.row.now in
    record { room = new-room ws row (other (goal.at.returns-then-n-lt64 c).Joined-p-n (place (goal.at.returns-then-n-lt64 c).After-earlier-p)) (rw (← c.count-n.ensures) c.if-n-lt64.true); words = rw (c.put_row-then-n-lt64.ensures, c.raise.ensures, place (goal.at.returns-then-n-lt64 c).After-earlier-p, c.count-n.ensures) (new-words ws row (other (goal.at.returns-then-n-lt64 c).Joined-p-n (place (goal.at.returns-then-n-lt64 c).After-earlier-p)) (rw (← place (goal.at.returns-then-n-lt64 c).After-earlier-p, ← c.count-n.ensures) c.earlier-p.ensures.0)) }
