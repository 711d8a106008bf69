-- `root_of` meets its contract: sig is moved up to 47 binary digits, and the exponent tells what is left. Assumes nothing.
use Rattle.std.proofs.Common.{◌≡◌, ℕ, ◌+◌, ◌*◌, ◌%◌, ◌^◌, ◌<◌, ◌≤◌, false, ◌∙◌, mod-eq_of_lt, arith}
use mathlib.Core.Path.{subst⁻¹}
use lib.Count.{count_leading_zeros}
use lib.Ieee.{Float}
use lib.Ieee.Exact.{HasValue}
use Rattle.curves.proofs.Shifts.{Moved, moved, zeros-most, by-zeros, value}
use Rattle.curves.proofs.root.root_of.Goals as goal
use Rattle.curves.proofs.root.root_of.Goals.{Joined-sig-lt8388608, Then-sig-lt8388608, then-sig-lt8388608, else-sig-lt8388608}

-- what `scaled_root` is handed
record Scaled (sig place n rest : ℕ) : Type 0 where
  pub long : Moved n
  pub few : rest < 508
  pub same : (x : Float) → HasValue x false (sig * 2 ^ place) (2 ^ 149) → HasValue x false (n * 2 ^ rest) (2 ^ 298)

-- no digit is shifted out
scaled-by : (sig place u n rest : ℕ) → Moved (sig * 2 ^ u) → place + 149 ≡ u + rest → rest < 508 → n ≡ sig * 2 ^ u % 2 ^ 64 → Scaled sig place n rest
scaled-by sig place u n rest m e f h =
    let k : n ≡ sig * 2 ^ u = h ∙ mod-eq_of_lt (omega arith) in
    record { long = subst⁻¹ Moved k m; few = f; same = λ x v. subst⁻¹ (λ (a : ℕ). HasValue x false (a * 2 ^ rest) (2 ^ 298)) k (value sig place u rest e x v) }

zeros : (c : Then-sig-lt8388608) → count_leading_zeros 32 c.args.sig ≤ 31
zeros c = zeros-most c.args.sig c.requires.0 c.if-sig-lt8388608.true

-- where the two ways meet
scaled : (c : Joined-sig-lt8388608) → Scaled c.args.sig c.args.place c.if-sig-lt8388608.n c.if-sig-lt8388608.rest
scaled c =
    let a = c.args in
    let p = c.requires in
    elim c.if-sig-lt8388608.branch [
      | then-sig-lt8388608 w ↦
          let z = zeros-most a.sig p.0 w.if-sig-lt8388608.true in
          scaled-by a.sig a.place (count_leading_zeros 32 a.sig + 15) _ _ (by-zeros a.sig p.0 w.if-sig-lt8388608.true) (omega (arith, w.rest-is)) (omega (arith, w.rest-is, p.2)) w.n-is
      | else-sig-lt8388608 w ↦
          scaled-by a.sig a.place 23 _ _ (moved a.sig 23 (omega arith) (omega (arith, w.if-sig-lt8388608.false)) (omega (arith, p.1))) (omega (arith, w.rest-is)) (omega (arith, w.rest-is, p.2)) w.n-is
    ]

pub scaled_root-requires : goal.scaled_root-requires
scaled_root-requires c = ((scaled (goal.at.scaled_root-requires c).Joined-sig-lt8388608).long.0, (scaled (goal.at.scaled_root-requires c).Joined-sig-lt8388608).long.1, (scaled (goal.at.scaled_root-requires c).Joined-sig-lt8388608).few)

pub returns : goal.returns
returns c = λ x v. c.scaled_root.ensures x ((scaled (goal.at.returns c).Joined-sig-lt8388608).same x v)
