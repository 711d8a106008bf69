-- `whole_part` meets its contract, by where x lies against -1 and 2 ^ 32. Assumes nothing.
use Rattle.std.proofs.Common.{ℕ, ◌<◌, T, sym, ◌∙◌, subst}
use lib.Ieee.{of_bits, neg}
use Rattle.math.proofs.WholePart.{in-range, past-range, before-range}
use Rattle.math.proofs.whole.whole_part.Goals as goal

pub truncating_f32_to_u64-requires : goal.truncating_f32_to_u64-requires
unfolding of_bits neg
truncating_f32_to_u64-requires c = record { lower_bound = subst T (sym c.if-x.true) tt; upper_bound = (in-range c.args.x c.if-x.true c.if-x-2.true).0 }

pub overflow_cast-result : goal.overflow_cast-result
unfolding of_bits neg
overflow_cast-result c = let r = in-range c.args.x c.if-x.true c.if-x-2.true in
    record { fits = subst (λ (n : ℕ). n < 4294967296) (sym c.truncating_f32_to_u64.ensures) r.1 }

pub returns-then-x-2 : goal.returns-then-x-2
unfolding of_bits neg
returns-then-x-2 c = c.truncating_f32_to_u64.ensures ∙ (in-range c.args.x c.if-x.true c.if-x-2.true).2

pub returns-then-x : goal.returns-then-x
unfolding of_bits neg
returns-then-x c = past-range c.args.x c.if-x.true c.if-x-2.false

pub returns : goal.returns
unfolding of_bits neg
returns c = before-range c.args.x c.if-x.false
