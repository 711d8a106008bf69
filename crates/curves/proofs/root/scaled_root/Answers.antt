-- `scaled_root` meets its contract: n, doubled or not, has 47 or 48 binary digits, so its root has the 24 that a float is written with. Assumes nothing.
use Rattle.std.proofs.Common.{ℕ, ◌+◌, ◌*◌, ◌/◌, ◌%◌, ◌^◌, ◌<◌, ◌≤◌, false, arith}
use mathlib.Core.Path.{subst⁻¹}
use lib.Ieee.Exact.{HasValue}
use Rattle.curves.specs.Root.{Root}
use Rattle.curves.proofs.Nearest.{digits}
use Rattle.curves.proofs.Patterns.{written, no_nan}
use Rattle.curves.proofs.Scaled.{Ready, rooted}
use Rattle.curves.proofs.Shifts.{evened, readied}
use Rattle.curves.proofs.root.scaled_root.Goals as goal
use Rattle.curves.proofs.root.scaled_root.Goals.{After-nearest_root-q, Start}

ready : (c : Start) → Ready (c.args.n * (1 + c.args.rest % 2))
ready c = readied c.args.n (c.args.rest % 2) (omega arith) (c.requires.0, c.requires.1)

few : (c : Start) → c.args.rest / 2 < 254
few c = omega (arith, c.requires.2)

long : (c : After-nearest_root-q) → (0x80_0000 ≤ c.nearest_root-q.result) × (c.nearest_root-q.result < 0x100_0000)
long c = digits c.nearest_root-q.result _ c.nearest_root-q.ensures (ready c.before).0 (ready c.before).1

pub returns : goal.returns
returns c = λ x v. let q = c.nearest_root-q.result in let n = c.args.n in let rest = c.args.rest in subst⁻¹ (Root x) (written (rest / 2) q (few (goal.at.returns c).Start) (long (goal.at.returns c).After-nearest_root-q).0 (long (goal.at.returns c).After-nearest_root-q).1)
    (rooted x (n * (1 + rest % 2)) (rest / 2) q (subst⁻¹ (λ (a : ℕ). HasValue x false a (2 ^ 298)) (evened n rest) v) (ready (goal.at.returns c).Start) c.nearest_root-q.ensures)

pub float_from_bits-result : goal.float_from_bits-result
float_from_bits-result c = no_nan _ _ (few (goal.at.float_from_bits-result c).Start) (long (goal.at.float_from_bits-result c).After-nearest_root-q).0 (long (goal.at.float_from_bits-result c).After-nearest_root-q).1
