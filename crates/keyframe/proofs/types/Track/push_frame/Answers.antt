-- `push_frame` meets its contract, by its outcome. Assumes nothing.
use Rattle.std.proofs.Common.{◌≡◌, ◌≤◌, true, length, sym, ◌∙◌, arith, rules, Err}
use lib.Ieee.{of_bits}
use Rattle.math.proofs.Choice.{fails, passes}
use Rattle.keyframe.specs.Limits.{base_of, within_of}
use Rattle.keyframe.proofs.Records.{frames-long, few-frames, last-time, no-time}
use Rattle.keyframe.proofs.Changes.{push-broken}
use Rattle.keyframe.proofs.Refusals.{push-by}
use mathlib.Core.Path.{ap}
use mathlib.Core.Bool.{not}
use Rattle.keyframe.proofs.types.Track.push_frame.Goals as goal
use Rattle.keyframe.proofs.types.Track.push_frame.Goals.{After-stored-frame, Else-not-is_within_limits, Joined-n-eq0, then-n-eq0, else-n-eq0}

within : (c : Else-not-is_within_limits) → within_of c.args.self ≡ true
within c = passes _ _ c.is_within_limits.ensures (ap not c.if-not-is_within_limits.false)

few : (c : After-stored-frame) → c.args.self.count ≤ 64
few c = few-frames _ (within c.before)

-- where the two ways meet, the last time is known
last : (c : Joined-n-eq0) → c.if-n-eq0.last ≡ base_of c.args.self
unfolding of_bits
last c =
    let t = c.args.self in let l : length t.frames ≡ 64 = frames-long t _ c.well_formed.0 in
    let f = few c.before in
    elim c.if-n-eq0.branch [
      | then-n-eq0 w ↦ w.last-is ∙ sym (no-time t.frames t.count w.if-n-eq0.true)
      | else-n-eq0 w ↦ w.last-is ∙ sym (last-time t.frames t.count (omega (arith, l, f)) w.if-n-eq0.false)
    ]

pub returns-then-not-is_within_limits : goal.returns-then-not-is_within_limits
returns-then-not-is_within_limits c = ap Err c.new.ensures ∙ push-broken c.args.self c.args.k (fails _ _ c.is_within_limits.ensures (ap not c.if-not-is_within_limits.true))

pub offset_bounds-self-n : goal.offset_bounds-self-n
offset_bounds-self-n c = let f = few (goal.at.offset_bounds-self-n c).After-stored-frame in search rules

pub bounds-self-n : goal.bounds-self-n
bounds-self-n c = let f = few (goal.at.bounds-self-n c).After-stored-frame in search rules

pub returns-in-Err : goal.returns-in-Err
returns-in-Err c = ap Err c.new-in-Err.ensures ∙ push-by c.args.self (within (goal.at.returns-in-Err c).Else-not-is_within_limits) c.args.k _ _ (last (goal.at.returns-in-Err c).Joined-n-eq0) c.stored-frame.ensures _ (sym c.in-Err.is ∙ c.push_outcome-outcome.ensures)

pub place-requires : goal.place-requires
place-requires c = few (goal.at.place-requires c).After-stored-frame

pub returns : goal.returns
returns c = c.place.ensures ∙ push-by c.args.self (within (goal.at.returns c).Else-not-is_within_limits) c.args.k _ _ (last (goal.at.returns c).Joined-n-eq0) c.stored-frame.ensures _ (sym c.in_default.is ∙ c.push_outcome-outcome.ensures)
