-- `last_of` meets its contract, by what its callees ensure. Assumes nothing.
use borrow.Author.Tests.{lt-ltb, le-ltb, eq-eqb, ne_eqb}
use Rattle.capi.specs.Replays.{last_from}
use Rattle.capi.proofs.replays.last_of.Goals as goal

pub returns-then-last-lt65536 : goal.returns-then-last-lt65536
unfolding last_from
returns-then-last-lt65536 c = simp (lt-ltb _ 65536 c.if-last-lt65536.true)

pub returns-then-last-eq65536 : goal.returns-then-last-eq65536
unfolding last_from
returns-then-last-eq65536 c = simp (le-ltb _ 65536 c.if-last-lt65536.false, eq-eqb _ 65536 c.if-last-eq65536.true)

pub returns : goal.returns
unfolding last_from
returns c = simp (le-ltb _ 65536 c.if-last-lt65536.false, ne_eqb _ 65536 c.if-last-eq65536.false)
