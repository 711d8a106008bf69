-- `easing_fits` meets its contract: a plain kind fits, and so does what a record may hold. Assumes nothing.
use mathlib.Core.Path.{◌≡◌, sym, ◌∙◌}
use mathlib.Core.Bool.{true}
use borrow.Author.Tests.{lt-ltb}
use Rattle.words.specs.declared.kinds.LaxEasing.{LaxEasing}
use Rattle.words.specs.Kinds.{easing_from}
use Rattle.words.specs.Lent.{easing_at}
use Rattle.words.specs.Sampling.{easing_fits}
use Rattle.words.specs.Tracks.{easing_in}
use Rattle.words.proofs.Fitting.{plain_fits, known-fits}
use Rattle.easing_words.specs.Drawing.{holds_of}
use Rattle.easing_words.proofs.Applied.{Holds, holds-so}
use Rattle.track_words.proofs.checking.easing_fits.Goals as goal

held : (w : LaxEasing) → holds_of w.kind w.a w.b w.c w.d ≡ true → true ≡ easing_fits w
held w h = let s : Holds w = holds-so w h in sym s.fits ∙ known-fits w (easing_in (easing_from w)) s.known

pub returns-then-kind-lt13 : goal.returns-then-kind-lt13
returns-then-kind-lt13 c = sym (plain_fits _ (rw (← c.word_at-kind.ensures, lt-ltb _ 13 c.if-kind-lt13.true)))

pub returns-then-holds : goal.returns-then-holds
returns-then-holds c = held (easing_at c.args.w.now c.args.at)
    (rw (c.word_at-kind.ensures, c.word_at-a.ensures, c.word_at-b.ensures, c.word_at-c.ensures, c.word_at-d.ensures) at (sym c.holds.ensures ∙ c.if-holds.true))
