-- `eased` meets its contract, by what its callees ensure. Assumes nothing.
use mathlib.Core.Path.{refl, sym, ◌∙◌}
use Rattle.math.specs.Rounded.{zero_f}
use Rattle.math.proofs.Order.{le-numbers}
use Rattle.math.proofs.Ranges.{clamp-stays}
use Rattle.words.specs.Lent.{easing_at}
use Rattle.easing_words.proofs.Applied.{plain-applies, bezier-applies}
use Rattle.track_words.proofs.sampling.eased.Goals as goal

pub returns-in-Some : goal.returns-in-Some
returns-in-Some c = let d = rw c.word_at-kind.ensures at (sym c.in-Some.is ∙ c.draw.ensures) in
    rw (c.plain.ensures, (plain-applies (easing_at c.args.w.now c.args.at) c.args.p _ _ d (sym (clamp-stays c.args.p c.requires.1)) (le-numbers zero_f c.args.p c.requires.1.0).1).1) refl

pub returns-in-Some-search : goal.returns-in-Some-search
returns-in-Some-search c = let f = rw (c.word_at-kind.ensures, c.word_at-a.ensures, c.word_at-b.ensures, c.word_at-c.ensures, c.word_at-d.ensures) at (sym c.in-Some-search.is ∙ c.search.ensures) in
    rw (bezier-applies (easing_at c.args.w.now c.args.at) c.args.p _ _ f (sym (clamp-stays c.args.p c.requires.1)) (le-numbers zero_f c.args.p c.requires.1.0).1).1 refl
