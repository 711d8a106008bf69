-- `run_on` meets its contract. The invariant: the run has reached step i. The measure is the steps that are left. Assumes nothing.
use native.Mathlib.Omega.{arith}
use mathlib.Core.Bool.{not}
use mathlib.Core.Path.{sym, ◌∙◌}
use borrow.Author.Rules.{scaled_Fits}
use Rattle.math.proofs.Tallies.{byte-below}
use Rattle.steps.proofs.Courses.{begins, goes_on, stops, finishes}
use Rattle.steps.proofs.Taking.{took-within}
use Rattle.steps.proofs.run.run_on.Goals as goal

pub loop-i-init : goal.loop-i-init
loop-i-init c = begins _ _ _ _ c.requires.0

pub glide_on-stretch-requires : goal.glide_on-stretch-requires
glide_on-stretch-requires c = let p = c.requires in let r = c.loop-i.invariant in (r.within, omega (arith, r.values-long, p.1), omega (arith, r.folds-long, p.2), r.few, omega (arith, r.few-unsettled))

pub take-requires : goal.take-requires
take-requires c = let p = c.requires in let r = c.glide_on-stretch.ensures.1 _ _ _ c.loop-i.invariant in
    r.within

pub offset_bounds-values-i : goal.offset_bounds-values-i
offset_bounds-values-i c = scaled_Fits _ _ _ c.if-i-steps.true c.well_formed.1.0.1

pub bounds-values-i : goal.bounds-values-i
bounds-values-i c = let p = c.requires in let r = c.glide_on-stretch.ensures.1 _ _ _ c.loop-i.invariant in
    omega (arith, r.values-long, p.1, c.if-i-steps.true)

pub offset_bounds-folds-i : goal.offset_bounds-folds-i
offset_bounds-folds-i c = scaled_Fits _ _ _ c.if-i-steps.true c.well_formed.1.0.1

pub bounds-folds-i : goal.bounds-folds-i
bounds-folds-i c = let p = c.requires in let r = c.glide_on-stretch.ensures.1 _ _ _ c.loop-i.invariant in
    omega (arith, r.folds-long, p.2, c.if-i-steps.true)

pub overflow_add-unsettled : goal.overflow_add-unsettled
overflow_add-unsettled c = let p = c.requires in let r = c.glide_on-stretch.ensures.1 _ _ _ c.loop-i.invariant in
    omega (arith, byte-below (not c.in-Ok.field-0.found.settled) _ _ r.few-unsettled, c.if-i-steps.true, c.well_formed.1.0)

pub overflow_add-i : goal.overflow_add-i
overflow_add-i c = omega (arith, c.if-i-steps.true, c.well_formed.1.0)

pub loop-i-smaller-in-Ok : goal.loop-i-smaller-in-Ok
loop-i-smaller-in-Ok c = let p = c.requires in let r = c.glide_on-stretch.ensures.1 _ _ _ c.loop-i.invariant in
    omega (arith, c.glide_on-stretch.ensures.0, c.loop-i-test.true, c.if-i-steps.true)

pub loop-i-preserved-in-Ok : goal.loop-i-preserved-in-Ok
loop-i-preserved-in-Ok c = let p = c.requires in let r = c.glide_on-stretch.ensures.1 _ _ _ c.loop-i.invariant in
    let e = sym c.take.ensures ∙ c.in-Ok.is in
    goes_on _ _ _ _ p.1 p.2 _ _ _ _ _ r _ _ _ c.if-i-steps.true e (took-within _ _ _ _ _ e)

pub shape_of-values-in-Err : goal.shape_of-values-in-Err
shape_of-values-in-Err c = let p = c.requires in let r = c.glide_on-stretch.ensures.1 _ _ _ c.loop-i.invariant in
    r.values-long

pub shape_of-folds-in-Err : goal.shape_of-folds-in-Err
shape_of-folds-in-Err c = let p = c.requires in let r = c.glide_on-stretch.ensures.1 _ _ _ c.loop-i.invariant in
    r.folds-long

pub returns-in-Err : goal.returns-in-Err
returns-in-Err c = let p = c.requires in let r = c.glide_on-stretch.ensures.1 _ _ _ c.loop-i.invariant in
    let q = stops _ _ _ _ p.1 p.2 _ _ _ _ _ r _ c.if-i-steps.true (sym c.take.ensures ∙ c.in-Err.is) in
    record { answer = c.answer.ensures ∙ q.0; value = q.1; fold = q.2 }

pub loop-i-smaller : goal.loop-i-smaller
loop-i-smaller c = let p = c.requires in let r = c.glide_on-stretch.ensures.1 _ _ _ c.loop-i.invariant in
    omega (arith, c.glide_on-stretch.ensures.0, c.loop-i-test.true, c.if-i-steps.false)

pub loop-i-preserved : goal.loop-i-preserved
loop-i-preserved c = let p = c.requires in let r = c.glide_on-stretch.ensures.1 _ _ _ c.loop-i.invariant in
    r

pub shape_of-values : goal.shape_of-values
shape_of-values c = c.loop-i.invariant.values-long

pub shape_of-folds : goal.shape_of-folds
shape_of-folds c = c.loop-i.invariant.folds-long

pub returns : goal.returns
returns c = let p = c.requires in let r = finishes _ _ _ _ p.1 p.2 _ _ _ _ _ c.loop-i.invariant (omega (arith, c.loop-i.invariant.few, c.loop-i-test.false)) in
    record { answer = c.answer-2.ensures ∙ r.0; value = r.1; fold = r.2 }
