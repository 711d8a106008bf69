-- Each supplied kind, at its parameters in `all_named`, is 0 at 0 and 1 at 1. Assumes nothing.
use mathlib.Core.Path.{refl}
use lib.Dec.{T, eqb}
use lib.ListN.{length, get_or}
use lib.Ieee.{add, sub, mul, div, neg, lt, le, eq, is_nan, of_int, of_bits, to_bits}
use borrow.Author.Tests.{eqb-true}
use Rattle.math.specs.Lists.{every}
use Rattle.math.proofs.Lists.{every-member}
use Rattle.curves.specs.Root.{root_from, sqrt_of}
use Rattle.curves.specs.Circ.{in_circ, out_circ, in_out_circ}
use Rattle.bezier.specs.Bezier.{solution_of, cubic_bezier}
use Rattle.easing.specs.declared.kinds.Easing.TheVariants.{Linear}
use Rattle.easing.specs.Kinds.{number_of, curve_of, supplied_of, all_named}
use Rattle.easing.specs.Params.{params_of, within_of}
use Rattle.easing.specs.Apply.{search_of, apply_of}
use Rattle.easing.specs.Ends.{supplied_in, SuppliedNumber, Numbered, ended, Ends, Zeros}
use Rattle.easing.proofs.Tags.{each_below}

all-ended : T (every ended (supplied_in all_named))
unfolding supplied_of apply_of within_of params_of curve_of search_of add sub mul div neg lt le eq is_nan of_int of_bits sqrt_of root_from in_circ out_circ in_out_circ cubic_bezier solution_of
all-ended = tt

pub ends : Ends
ends e m = every-member ended (supplied_in all_named) all-ended e m

pub supplied-number : SuppliedNumber
unfolding supplied_of
supplied-number = refl

pub numbered : Numbered
numbered = (refl, λ k h. eqb-true _ k (each_below (length all_named) (λ n. eqb (number_of (get_or all_named n Linear)) n) refl k h))

pub zeros : Zeros
unfolding supplied_of apply_of within_of params_of curve_of search_of add sub mul div neg lt le eq is_nan of_int of_bits to_bits sqrt_of root_from in_circ out_circ in_out_circ cubic_bezier solution_of
zeros = refl
