-- `of_number` meets its contract: each arm is told its number, and the last is behind the list. Assumes nothing.
use lib.ListN.{length, get_or-eq_default}
use Rattle.easing.specs.declared.kinds.Easing.TheVariants.{Linear}
use Rattle.easing.specs.Kinds.{all_named}
use Rattle.easing.specs.Params.{with_params}
use Rattle.easing.proofs.Rest.{at_least}
use Rattle.easing.proofs.kinds.Easing.of_number.Goals as goal

pub returns-in-0 : goal.returns-in-0
unfolding with_params
returns-in-0 c = simp c.in-0.is

pub returns-in-1 : goal.returns-in-1
unfolding with_params
returns-in-1 c = simp c.in-1.is

pub returns-in-2 : goal.returns-in-2
unfolding with_params
returns-in-2 c = simp c.in-2.is

pub returns-in-3 : goal.returns-in-3
unfolding with_params
returns-in-3 c = simp c.in-3.is

pub returns-in-4 : goal.returns-in-4
unfolding with_params
returns-in-4 c = simp c.in-4.is

pub returns-in-5 : goal.returns-in-5
unfolding with_params
returns-in-5 c = simp c.in-5.is

pub returns-in-6 : goal.returns-in-6
unfolding with_params
returns-in-6 c = simp c.in-6.is

pub returns-in-7 : goal.returns-in-7
unfolding with_params
returns-in-7 c = simp c.in-7.is

pub returns-in-8 : goal.returns-in-8
unfolding with_params
returns-in-8 c = simp c.in-8.is

pub returns-in-9 : goal.returns-in-9
unfolding with_params
returns-in-9 c = simp c.in-9.is

pub returns-in-10 : goal.returns-in-10
unfolding with_params
returns-in-10 c = simp c.in-10.is

pub returns-in-11 : goal.returns-in-11
unfolding with_params
returns-in-11 c = simp c.in-11.is

pub returns-in-12 : goal.returns-in-12
unfolding with_params
returns-in-12 c = simp c.in-12.is

pub returns-in-13 : goal.returns-in-13
unfolding with_params
returns-in-13 c = simp c.in-13.is

pub returns-in-14 : goal.returns-in-14
unfolding with_params
returns-in-14 c = simp c.in-14.is

pub returns-in-15 : goal.returns-in-15
unfolding with_params
returns-in-15 c = simp c.in-15.is

pub returns-in-16 : goal.returns-in-16
unfolding with_params
returns-in-16 c = simp c.in-16.is

pub returns-in-17 : goal.returns-in-17
unfolding with_params
returns-in-17 c = simp c.in-17.is

pub returns-in-18 : goal.returns-in-18
unfolding with_params
returns-in-18 c = simp c.in-18.is

pub returns-in-19 : goal.returns-in-19
unfolding with_params
returns-in-19 c = simp c.in-19.is

pub returns-in-20 : goal.returns-in-20
unfolding with_params
returns-in-20 c = simp c.in-20.is

pub returns-in-21 : goal.returns-in-21
unfolding with_params
returns-in-21 c = simp c.in-21.is

pub returns-in-22 : goal.returns-in-22
unfolding with_params
returns-in-22 c = simp c.in-22.is

pub returns-in-23 : goal.returns-in-23
unfolding with_params
returns-in-23 c = simp c.in-23.is

pub returns-in-24 : goal.returns-in-24
unfolding with_params
returns-in-24 c = simp c.in-24.is

pub returns-in-25 : goal.returns-in-25
unfolding with_params
returns-in-25 c = simp c.in-25.is

pub returns-in-26 : goal.returns-in-26
unfolding with_params
returns-in-26 c = simp c.in-26.is

pub returns-in-27 : goal.returns-in-27
unfolding with_params
returns-in-27 c = simp c.in-27.is

pub returns-in-28 : goal.returns-in-28
unfolding with_params
returns-in-28 c = simp c.in-28.is

pub returns-in-29 : goal.returns-in-29
unfolding with_params
returns-in-29 c = simp c.in-29.is

pub returns-in-30 : goal.returns-in-30
unfolding with_params
returns-in-30 c = simp c.in-30.is

pub returns-in-31 : goal.returns-in-31
unfolding with_params
returns-in-31 c = simp c.in-31.is

pub returns-in-32 : goal.returns-in-32
unfolding with_params
returns-in-32 c = simp c.in-32.is

pub returns-in-33 : goal.returns-in-33
unfolding with_params
returns-in-33 c = simp c.in-33.is

pub returns-in-34 : goal.returns-in-34
unfolding with_params
returns-in-34 c = simp c.in-34.is

pub returns-in-35 : goal.returns-in-35
unfolding with_params
returns-in-35 c = simp c.in-35.is

pub returns-in-36 : goal.returns-in-36
unfolding with_params
returns-in-36 c = simp c.in-36.is

pub returns-in-37 : goal.returns-in-37
unfolding with_params
returns-in-37 c = simp c.in-37.is

pub returns-in_default : goal.returns-in_default
unfolding with_params
returns-in_default c = simp (get_or-eq_default all_named Linear (at_least (length all_named) _ c.in_default.in_default-own.rest))
