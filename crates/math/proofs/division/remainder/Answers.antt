-- `remainder` meets its contract: each way out is told by the patterns of x and y. Assumes nothing.
use Rattle.std.proofs.Common.{◌≡◌, ◌-◌, ◌*◌, ◌%◌, ◌^◌, ◌<◌, ◌≤◌, refl, ◌∙◌, mod-lt, arith}
use denote.Floats.{passes}
use lib.Ieee.{nan, binary32, of_bits}
use Rattle.math.proofs.Remainders.{Patterns, by-nan, by-larger, of-endless, by_zero, by-smaller}
use Rattle.math.proofs.division.remainder.Goals as goal
use Rattle.math.proofs.division.remainder.Goals.{After-bits-b}

no_number : of_bits binary32 2143289344 ≡ nan
unfolding of_bits
no_number = refl

known : (c : After-bits-b) → Patterns c.args.x c.args.y c.bits-n.result c.bits-b.result
known c = record {
  held = (passes _ c.well_formed.0.1, passes _ c.well_formed.1.0.1);
  of-x = c.bits-n.ensures;
  of-y = c.bits-b.ensures;
}

pub returns-then-b-gt2139095040 : goal.returns-then-b-gt2139095040
returns-then-b-gt2139095040 c = by-nan (known (goal.at.returns-then-b-gt2139095040 c).After-bits-b) c.if-b-gt2139095040.true

pub returns-then-a-b : goal.returns-then-a-b
returns-then-a-b c = by-larger (known (goal.at.returns-then-a-b c).After-bits-b) c.if-a-b.true c.if-b-gt2139095040.false

pub returns-then-a-ge2139095040 : goal.returns-then-a-ge2139095040
returns-then-a-ge2139095040 c = no_number ∙ of-endless (known (goal.at.returns-then-a-ge2139095040 c).After-bits-b) c.if-a-ge2139095040.true

pub returns-then-b-eq0 : goal.returns-then-b-eq0
returns-then-b-eq0 c = no_number ∙ by_zero (known (goal.at.returns-then-b-eq0 c).After-bits-b) (omega arith) c.if-b-eq0.true

pub pattern-requires : goal.pattern-requires
pattern-requires c = let b = c.bits-b.result % 0x8000_0000 in
    let a = c.bits-n.result % 0x8000_0000 in
    let high = c.units-high.result in let low = c.units-low.result in let few : low ≤ 253 = omega (arith, c.units-low.ensures, c.if-a-ge2139095040.false, c.if-a-b.false) in
    let d : 0 < b - low * 8388608 = omega (arith, c.units-low.ensures, c.if-b-eq0.false) in
    (omega (arith, c.reduced-left.ensures, c.units-low.ensures, mod-lt ((a - high * 8388608) * 2 ^ (high - low)) d), few)

pub returns : goal.returns
returns c = c.of_bits.ensures
    ∙ by-smaller (known (goal.at.returns c).After-bits-b) c.units-high.result c.units-low.result c.reduced-left.result c.pattern.result
    (omega (arith, c.if-b-eq0.false)) c.if-a-b.false (omega (arith, c.if-a-ge2139095040.false)) c.units-high.ensures c.units-low.ensures c.reduced-left.ensures c.pattern.ensures.reads
