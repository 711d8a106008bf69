-- `is_value` meets its contract, by what its callees ensure. Assumes nothing.
use native.Mathlib.Omega.{arith}
use mathlib.Core.Path.{refl}
use borrow.Author.Tests.{le-leb}
use Rattle.tween_words.proofs.fitting.is_value.Goals as goal

pub returns : goal.returns
returns c = rw (le-leb c.args.word 0xffff_ffff (omega (arith, c.ranges))) refl
