-- `check` meets its contract, case by case. Assumes nothing.
use mathlib.Core.Path.{◌≡◌, sym, ◌∙◌}
use mathlib.Core.Bool.{true, ◌&&◌}
use native.Mathlib.Omega.{arith}
use lib.ListN.{take}
use Rattle.words.specs.Lent.{word_at, track_in}
use Rattle.words.specs.Modes.{is_mode}
use Rattle.words.specs.Tracks.{known_kinds, places_in}
use Rattle.track_words.proofs.Passed.{unknown, too_long, frame-breaks, head-decides}
use Rattle.track_words.proofs.checking.check.Goals as goal
use Rattle.track_words.proofs.checking.check.Goals.{After-wide-count, then-count-le64+else-frames_fit, else-count-le64}

count : (c : After-wide-count) → c.wide-count.result ≡ word_at c.args.w.now 512
count c = c.wide-count.ensures ∙ c.word_at.ensures

pub returns-then-frames_fit : goal.returns-then-frames_fit
returns-then-frames_fit c = let ws = c.args.w.now in let e = count (goal.at.returns-then-frames_fit c).After-wide-count in
    c.check_head.ensures ∙ head-decides ws (omega arith) (rw e at (sym c.frames_fit.ensures ∙ c.if-frames_fit.true)) _ (rw e at c.last_time.ensures)

pub returns-then-kinds_known-word_at : goal.returns-then-kinds_known-word_at
returns-then-kinds_known-word_at c = let ws = c.args.w.now in let e = count (goal.at.returns-then-kinds_known-word_at c).After-wide-count in
    let k = rw (c.places.ensures.1, e) at c.kinds_known.ensures in
    let known : known_kinds (take (places_in (word_at ws 512)) (track_in ws).frames) && is_mode (word_at ws 514) ≡ true = rw (← k, ← c.word_at-2.ensures) c.if-kinds_known-word_at.true in
    elim c.if-count-le64.branch [
      | then-count-le64+else-frames_fit w ↦ frame-breaks ws known (omega (arith, e, w.if-count-le64.true)) (rw e at (sym w.frames_fit.ensures ∙ w.if-frames_fit.false))
      | else-count-le64 w ↦ too_long ws known (omega (arith, e, w.if-count-le64.false))
    ]

pub returns : goal.returns
returns c = let ws = c.args.w.now in let e = count (goal.at.returns c).After-wide-count in
    let k = rw (c.places.ensures.1, e) at c.kinds_known.ensures in
    unknown ws (rw (← k, ← c.word_at-2.ensures) c.if-kinds_known-word_at.false)
