-- `pattern` meets its contract: a significand is moved up to 24 binary digits, or as far as its units go. Assumes nothing.
use Rattle.std.proofs.Common.{◌≡◌, ℕ, ◌+◌, ◌-◌, ◌*◌, ◌%◌, ◌^◌, ◌<◌, ap, ◌∙◌, mod-eq_of_lt, arith}
use lib.Count.{count_leading_zeros}
use lib.Ieee.{binary32, of_bits}
use Rattle.math.proofs.Ordered.{with-sign}
use Rattle.math.proofs.Remainders.{Raised, raised, placed, placed-none}
use Rattle.math.proofs.division.pattern.Goals as goal
use Rattle.math.proofs.division.pattern.Goals.{Else-q-eq0}

zeros : (c : Else-q-eq0) → Raised c.args.q (count_leading_zeros 32 c.args.q)
zeros c = raised c.args.q (omega (arith, c.if-q-eq0.false)) c.requires.0

-- no digit is shifted out
room : (n : ℕ) → n < 16777216 → n % 0x1_0000_0000 ≡ n
room n h = mod-eq_of_lt (omega arith)

pub returns-then-q-eq0 : goal.returns-then-q-eq0
returns-then-q-eq0 c = record { small = omega arith; reads = λ s. placed-none s c.args.q c.args.units c.if-q-eq0.true }

pub overflow_sub-zeros : goal.overflow_sub-zeros
overflow_sub-zeros c = (zeros (goal.at.overflow_sub-zeros c).Else-q-eq0).least

pub overflow_shl-result : goal.overflow_shl-result
overflow_shl-result c = omega (arith, (zeros (goal.at.overflow_shl-result c).Else-q-eq0).most)

pub overflow_add-result : goal.overflow_add-result
overflow_add-result c = let n = c.args.q * 2 ^ (count_leading_zeros 32 c.args.q - 8) in
    record { fits = omega (arith, c.requires.1, room n ((zeros (goal.at.overflow_add-result c).Else-q-eq0).short _ (omega arith)), (zeros (goal.at.overflow_add-result c).Else-q-eq0).short (count_leading_zeros 32 c.args.q - 8) (omega arith)) }

pub returns-then-zeros-units : goal.returns-then-zeros-units
returns-then-zeros-units c = let q = c.args.q in let k = c.args.units in let i = count_leading_zeros 32 q - 8 in
    let z = zeros (goal.at.returns-then-zeros-units c).Else-q-eq0 in
    let l : q * 2 ^ i < 16777216 = z.short i (omega arith) in
    let e : q * 2 ^ i % 0x1_0000_0000 ≡ q * 2 ^ i = room (q * 2 ^ i) l in record { small = omega (arith, c.requires.1); reads = λ s. ap (λ (w : ℕ). of_bits binary32 (with-sign s ((k - i) * 8388608 + w))) e ∙ placed s q k i (omega arith) c.requires.1 l (λ h. omega (arith, z.long)) }

pub overflow_shl-result-2 : goal.overflow_shl-result-2
overflow_shl-result-2 c = omega (arith, (zeros (goal.at.overflow_shl-result-2 c).Else-q-eq0).most)

pub returns : goal.returns
returns c = let q = c.args.q in let k = c.args.units in let l : q * 2 ^ k < 16777216 = (zeros (goal.at.returns c).Else-q-eq0).short k (omega arith) in
    let e : q * 2 ^ k % 0x1_0000_0000 ≡ (k - k) * 8388608 + q * 2 ^ k = room (q * 2 ^ k) l ∙ omega arith in record { small = omega (arith, room (q * 2 ^ k) l); reads = λ s. ap (λ (w : ℕ). of_bits binary32 (with-sign s w)) e ∙ placed s q k k (omega arith) c.requires.1 l (λ h. omega arith) }
