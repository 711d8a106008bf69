-- `reduced` meets its contract: each turn leaves the remainder as it is. The measure is how many digits are left. Assumes nothing.
use Rattle.std.proofs.Common.{◌≡◌, ◌*◌, ◌%◌, ◌^◌, ◌<◌}
use Rattle.math.proofs.division.reduced.Given as goal

abbrev pub invariant-loop-digits : goal.invariant-loop-digits
invariant-loop-digits l = (l.left < 16777216) × (l.left * 2 ^ l.digits % l.d ≡ l.q * 2 ^ l.shift % l.d)

abbrev pub decreases-loop-digits : goal.decreases-loop-digits
decreases-loop-digits l = l.digits
