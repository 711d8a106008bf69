-- `push_outcome` meets its contract, refusal by refusal. Assumes nothing.
use Rattle.std.proofs.Common.{◌≡◌, true}
use Rattle.math.proofs.Choice.{fails, passes}
use Rattle.easing.specs.Kinds.{supplied_of}
use Rattle.keyframe.specs.Inner.{push_outcome}
use Rattle.keyframe.proofs.Changes.{fits-params}
use mathlib.Core.Path.{ap}
use mathlib.Core.Bool.{not}
use Rattle.keyframe.proofs.refusing.push_outcome.Goals as goal
use Rattle.keyframe.proofs.refusing.push_outcome.Goals.{Else-not-is_supplied}

supplied : (c : Else-not-is_supplied) → supplied_of c.args.easing ≡ true
supplied c = passes _ _ c.is_supplied.ensures (ap not c.if-not-is_supplied.false)

pub returns-then-not-is_supplied : goal.returns-then-not-is_supplied
unfolding push_outcome
returns-then-not-is_supplied c = rw (fails _ _ c.is_supplied.ensures (ap not c.if-not-is_supplied.true))

pub returns-then-not-fits_record : goal.returns-then-not-fits_record
unfolding push_outcome
returns-then-not-fits_record c = let s = supplied (goal.at.returns-then-not-fits_record c).Else-not-is_supplied in
    rw (s, fits-params _ _ s (fails _ _ c.fits_record.ensures (ap not c.if-not-fits_record.true)))

pub returns-then-not-takes : goal.returns-then-not-takes
unfolding push_outcome
returns-then-not-takes c = let s = supplied (goal.at.returns-then-not-takes c).Else-not-is_supplied in
    rw (s, fits-params _ _ s (passes _ _ c.fits_record.ensures (ap not c.if-not-fits_record.false)), fails _ _ c.takes.ensures (ap not c.if-not-takes.true))

pub returns : goal.returns
unfolding push_outcome
returns c = let s = supplied (goal.at.returns c).Else-not-is_supplied in
    rw (s, fits-params _ _ s (passes _ _ c.fits_record.ensures (ap not c.if-not-fits_record.false)), passes _ _ c.takes.ensures (ap not c.if-not-takes.false))
