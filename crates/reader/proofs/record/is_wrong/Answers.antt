-- `is_wrong` meets its contract, test by test. Assumes nothing.
use Rattle.std.proofs.Common.{ℕ, not, eqb, leb, ap, ◌∙◌}
use Rattle.reader.proofs.Wrongs.{wrong-kind, step-bits, other-bits}
use Rattle.reader.proofs.record.is_wrong.Goals as goal

pub returns-then-kind-bytes : goal.returns-then-kind-bytes
returns-then-kind-bytes c = wrong-kind _ c.if-kind-bytes.true

pub returns-then-kind-eq1 : goal.returns-then-kind-eq1
returns-then-kind-eq1 c = ap (leb 0x7f80_0000) c.bits_in.ensures ∙ step-bits _ c.if-kind-bytes.false c.if-kind-eq1.true

pub returns : goal.returns
returns c = ap (λ (n : ℕ). not (eqb n 0)) c.bits_in-2.ensures ∙ other-bits _ c.if-kind-bytes.false c.if-kind-eq1.false
