-- `reduced` meets its contract: each turn leaves the remainder as it is. The measure is how many digits are left. Assumes nothing.
use Rattle.std.proofs.Common.{◌≡◌, ℕ, ◌-◌, ◌*◌, ◌%◌, ◌^◌, ◌<◌, ◌≤◌, refl, ap, ◌∙◌, lt_of_lt_of_le, mod-lt, mod-eq_of_lt, arith, pow_mono, shl_lt}
use Rattle.math.proofs.Remainders.{turn}
use Rattle.math.proofs.division.reduced.Goals as goal

-- no digit is shifted out
room : (q i : ℕ) → q < 16777216 → i ≤ 40 → q * 2 ^ i % 2 ^ 64 ≡ q * 2 ^ i
room q i h l = mod-eq_of_lt (lt_of_lt_of_le (shl_lt 24 i h) (pow_mono {j = 64} (omega arith)))

pub loop-digits-init : goal.loop-digits-init
loop-digits-init c = (c.requires.0, refl)

pub nonzero_rem-left : goal.nonzero_rem-left
nonzero_rem-left c = c.requires.1

pub overflow_sub-digits : goal.overflow_sub-digits
overflow_sub-digits c = omega arith

pub loop-digits-smaller : goal.loop-digits-smaller
loop-digits-smaller c = omega arith

pub loop-digits-preserved : goal.loop-digits-preserved
loop-digits-preserved c = let l = c.loop-digits in let d = c.args.d in let n = l.digits in (
  omega (arith, mod-lt (l.left * 2 ^ 40 % 2 ^ 64) c.requires.1),
  ap (λ (z : ℕ). z % d * 2 ^ (n - 40) % d) (room l.left 40 l.invariant.0 (omega arith)) ∙ turn l.left n d (omega arith) ∙ l.invariant.1,
)

pub overflow_shl-result : goal.overflow_shl-result
overflow_shl-result c = omega arith

pub nonzero_rem-result : goal.nonzero_rem-result
nonzero_rem-result c = c.requires.1

pub overflow_cast-result-2 : goal.overflow_cast-result-2
overflow_cast-result-2 c = record { fits = omega (arith, mod-lt (c.loop-digits.left * 2 ^ c.loop-digits.digits % 2 ^ 64) c.requires.1) }

pub returns : goal.returns
returns c = let l = c.loop-digits in ap (λ (z : ℕ). z % c.args.d) (room l.left l.digits l.invariant.0 (omega arith)) ∙ l.invariant.1
