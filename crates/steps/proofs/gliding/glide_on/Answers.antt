-- `glide_on` meets its contract. The invariant: the run has gone on to step i. Assumes nothing.
use native.Mathlib.Omega.{arith}
use mathlib.Core.Bool.{not}
use mathlib.Core.Path.{◌≡◌, refl, subst}
use lib.ListN.{length}
use Rattle.math.proofs.Tallies.{byte-below}
use Rattle.tween.specs.Inner.{Glides}
use Rattle.tween.proofs.Glides.{glide-within}
use Rattle.steps.proofs.Onward.{starts, one-more-step}
use Rattle.steps.proofs.Taking.{glide-took}
use Rattle.steps.proofs.gliding.glide_on.Goals as goal

pub loop-i-init : goal.loop-i-init
loop-i-init c = let p = c.requires in (starts _ _ _ _ _ _ p.0 p.3 p.4, refl)

pub glide-requires : goal.glide-requires
glide-requires c = c.loop-i.invariant.0.within

pub shape_of-values-in_default : goal.shape_of-values-in_default
shape_of-values-in_default c = c.loop-i.invariant.0.values-long

pub shape_of-folds-in_default : goal.shape_of-folds-in_default
shape_of-folds-in_default c = c.loop-i.invariant.0.folds-long

pub returns-in_default : goal.returns-in_default
returns-in_default c = let o = c.loop-i.invariant.0 in (o.later, o.reaches)

pub value_by-found-requires : goal.value_by-found-requires
value_by-found-requires c = rw c.set_in.ensures (glide-within _ _ _ (subst (Glides _ _) c.in-Some.is c.glide.ensures), c.loop-i.invariant.1)

pub bounds-values-i : goal.bounds-values-i
bounds-values-i c = omega (arith, c.loop-i.invariant.0.values-long, c.requires.1)

pub bounds-folds-i : goal.bounds-folds-i
bounds-folds-i c = omega (arith, c.loop-i.invariant.0.folds-long, c.requires.2)

pub overflow_add-unsettled : goal.overflow_add-unsettled
overflow_add-unsettled c = omega (arith, byte-below (not c.value_by-found.result.settled) _ _ c.loop-i.invariant.0.few-unsettled)

pub loop-i-preserved : goal.loop-i-preserved
loop-i-preserved c = let p = c.requires in let g = subst (Glides _ _) c.in-Some.is c.glide.ensures in
    rw c.set_in.ensures (one-more-step _ _ _ _ _ _ p.1 p.2 _ _ _ _ _ c.loop-i.invariant.0 _ _ _ c.loop-i-test.true (glide-took _ _ _ g _ (rw c.set_in.ensures at c.value_by-found.ensures)) (glide-within _ _ _ g), c.loop-i.invariant.1)

pub shape_of-values : goal.shape_of-values
shape_of-values c = c.loop-i.invariant.0.values-long

pub shape_of-folds : goal.shape_of-folds
shape_of-folds c = c.loop-i.invariant.0.folds-long

pub returns : goal.returns
returns c = let o = c.loop-i.invariant.0 in let e : c.loop-i.i ≡ length c.args.steps.now = omega (arith, o.few) in
    (rw e at o.later, rw e at o.reaches)
