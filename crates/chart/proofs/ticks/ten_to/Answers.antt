-- `ten_to` is between 10^0 and 10^9.
use Rattle.std.proofs.Common.{◌≤◌, arith}
use Rattle.std.proofs.Math.Nat.{one-le-pow, pow-le-pow_right}
use Rattle.chart.proofs.ticks.ten_to.Goals as goal

pub returns : goal.returns
returns c =
    let few : c.min.result ≤ 9 = omega (arith, c.min.ensures) in
    rw c.pow.ensures (one-le-pow c.min.result 10 (omega arith), pow-le-pow_right (omega arith) few)
