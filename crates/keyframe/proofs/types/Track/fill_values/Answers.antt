-- `fill_values` meets its contract, by its outcome. Assumes nothing.
use Rattle.std.proofs.Common.{◌≡◌, true, sym, refl, ◌∙◌}
use Rattle.math.proofs.Choice.{fails, passes}
use Rattle.refusal.specs.declared.Refusal.TheVariants.{RecordBreaksLimit}
use Rattle.keyframe.specs.Limits.{within_of}
use Rattle.keyframe.proofs.Records.{few-frames, frames-fine}
use Rattle.keyframe.proofs.Refusals.{fill-by, fill-fits, fill-number}
use Rattle.keyframe.proofs.Batches.{number-broken, refused, accepted}
use mathlib.Core.Path.{ap}
use mathlib.Core.Bool.{not}
use Rattle.keyframe.proofs.types.Track.fill_values.Goals as goal
use Rattle.keyframe.proofs.types.Track.fill_values.Goals.{Else-not-is_within_limits}

within : (c : Else-not-is_within_limits) → within_of c.args.self ≡ true
within c = passes _ _ c.is_within_limits.ensures (ap not c.if-not-is_within_limits.false)

pub returns-then-not-is_within_limits : goal.returns-then-not-is_within_limits
returns-then-not-is_within_limits c =
    let q = refused c.args.self c.args.times.now c.args.out.now RecordBreaksLimit (number-broken _ _ _ (fails _ _ c.is_within_limits.ensures (ap not c.if-not-is_within_limits.true))) refl in
    record { answer = c.none_filled.ensures ∙ q.0; output = q.1 }

pub returns-in-Err : goal.returns-in-Err
returns-in-Err c =
    let r = c.in-Err.refusal in
    let e = sym c.in-Err.is ∙ c.fill_outcome.ensures in
    let q = refused c.args.self c.args.times.now c.args.out.now r (fill-by c.args.self (within (goal.at.returns-in-Err c).Else-not-is_within_limits) c.args.times.now c.args.out.now _ e) (fill-number _ _ _ r e) in
    record { answer = c.none_filled-in-Err.ensures ∙ q.0; output = q.1 }

pub fill-unsettled-requires : goal.fill-unsettled-requires
fill-unsettled-requires c = let w = within (goal.at.fill-unsettled-requires c).Else-not-is_within_limits in
    let f = fill-fits _ _ _ (sym c.in_default.is ∙ c.fill_outcome.ensures) in
    (frames-fine _ w, f.0, few-frames _ w, f.1)

pub returns : goal.returns
returns c = let f = c.fill-unsettled.ensures in let e = sym c.in_default.is ∙ c.fill_outcome.ensures in
    let r = accepted c.args.self c.args.times.now c.args.out.now (fill-by c.args.self (within (goal.at.returns c).Else-not-is_within_limits) c.args.times.now c.args.out.now _ e) in
    record { answer = rw f.count r.0; output = f.output ∙ r.1 }
