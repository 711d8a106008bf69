-- `lax_easing_named` meets its contract, by what its callees ensure. Assumes nothing.
use borrow.Author.Tests.{lt-ltb, le-ltb}
use Rattle.capi.specs.Easings.{lax_easing_named}
use Rattle.capi.proofs.easings.lax_easing_named.Goals as goal

pub returns-then-place-lt38 : goal.returns-then-place-lt38
unfolding lax_easing_named
returns-then-place-lt38 c = simp (lt-ltb _ _ c.if-place-lt38.true, c.bits.ensures, c.bits-then-place-lt38.ensures, c.bits-then-place-lt38-2.ensures, c.bits-then-place-lt38-3.ensures, c.easing_words-e.ensures, c.all_named-named.ensures)

pub returns : goal.returns
unfolding lax_easing_named
returns c = simp (le-ltb _ _ c.if-place-lt38.false)
