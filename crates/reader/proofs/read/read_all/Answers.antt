-- `read_all` meets its contract. The invariant: the reading has reached record i, and where the tween is sure it is within its limits. The measure is the records that are left. Assumes nothing.
use Rattle.std.proofs.Common.{sym, ap, ◌∙◌, subst, arith}
use borrow.Author.Rules.{scaled_Fits}
use Rattle.reader.specs.Hearing.{heard_of}
use Rattle.reader.specs.Inner.{Skims}
use Rattle.reader.proofs.Heard.{heard-as}
use Rattle.reader.proofs.Readings.{begins, here, place, goes_on, stops, finishes}
use Rattle.reader.proofs.read.read_all.Goals as goal

pub loop-i-init : goal.loop-i-init
loop-i-init c = (begins _ _ _, λ h. sym c.within-sure.ensures ∙ h)

pub record_at-bytes-requires : goal.record_at-bytes-requires
record_at-bytes-requires c = here _ _ _ c.requires.0 c.requires.1 _ _ _ c.loop-i.invariant.0 c.loop-i-test.true

pub skim-requires : goal.skim-requires
skim-requires c = c.loop-i.invariant.1

pub bounds-gaps-i : goal.bounds-gaps-i
bounds-gaps-i c = place _ _ _ c.requires.0 c.requires.1 _ _ _ c.loop-i.invariant.0 c.loop-i-test.true

pub loop-i-preserved-in-Some : goal.loop-i-preserved-in-Some
loop-i-preserved-in-Some c = let s = subst (Skims _ _ _) c.in-Some.is c.skim.ensures in (rw (c.capped_add-missing.ensures, c.capped_add-folds.ensures, c.set_in.ensures) (goes_on _ _ _ c.requires.0 c.requires.1 _ _ _ c.loop-i.invariant.0 _ _ c.loop-i-test.true (ap (heard_of _) (sym c.record_at-bytes.ensures) ∙ s.0 _ _)), λ _. rw c.set_in.ensures s.1)

pub offset_bounds-gaps-i-in-Ok : goal.offset_bounds-gaps-i-in-Ok
offset_bounds-gaps-i-in-Ok c = scaled_Fits _ _ 2 (place _ _ _ c.requires.0 c.requires.1 _ _ _ c.loop-i.invariant.0 c.loop-i-test.true) (omega (arith, c.loop-i.invariant.0.gaps-long, c.well_formed.1.1.0.1))

pub bounds-gaps-i-in-Ok : goal.bounds-gaps-i-in-Ok
bounds-gaps-i-in-Ok c = place _ _ _ c.requires.0 c.requires.1 _ _ _ c.loop-i.invariant.0 c.loop-i-test.true

pub overflow_add-i-in-Ok : goal.overflow_add-i-in-Ok
overflow_add-i-in-Ok c = omega (arith, c.loop-i-test.true, c.well_formed.1.0.0)

pub loop-i-smaller : goal.loop-i-smaller
loop-i-smaller c = omega (arith, c.loop-i-test.true)

pub loop-i-preserved : goal.loop-i-preserved
loop-i-preserved c = (goes_on _ _ _ c.requires.0 c.requires.1 _ _ _ c.loop-i.invariant.0 _ _ c.loop-i-test.true (heard-as _ _ _ _ _ _ c.record_at-bytes.ensures c.so_far-reached.ensures c.hear.ensures c.in-Ok.is), λ h. sym c.within-sure-in-Ok.ensures ∙ h)

pub shape_of-gaps-in-Err : goal.shape_of-gaps-in-Err
shape_of-gaps-in-Err c = c.loop-i.invariant.0.gaps-long

pub returns-in-Err : goal.returns-in-Err
returns-in-Err c = let r = stops _ _ _ c.requires.0 c.requires.1 _ _ _ c.loop-i.invariant.0 _ c.loop-i-test.true (heard-as _ _ _ _ _ _ c.record_at-bytes.ensures c.so_far-reached.ensures c.hear.ensures c.in-Err.is) in
    record { answer = c.stopped.ensures ∙ rw c.so_far-reached.ensures r.0; list = r.1 }

pub shape_of-gaps : goal.shape_of-gaps
shape_of-gaps c = c.loop-i.invariant.0.gaps-long

pub returns : goal.returns
returns c = let r = finishes _ _ _ c.requires.0 c.requires.1 _ _ _ c.loop-i.invariant.0 c.loop-i-test.false in
    record { answer = c.answer.ensures ∙ rw c.so_far.ensures r.0; list = r.1 }
