-- `put_list` meets its contract. The invariant: the words so far are written. Assumes nothing.
use mathlib.Core.Path.{◌≡◌, refl, ap, ◌∙◌}
use mathlib.Core.List.{[], ◌∷◌, map, map-append}
use borrow.Author.Rules.{rules}
use lib.ListN.{take, get_or}
use lib.Seq.{take_all}
use Rattle.rows.specs.Words.{put_all, put_of}
use Rattle.rows.proofs.Written.{put-more}
use Rattle.rows.proofs.lists.put_list.Goals as goal

pub loop-x-init : goal.loop-x-init
unfolding put_all
loop-x-init g c = refl

pub loop-x-preserved : goal.loop-x-preserved
unfolding put_all
loop-x-preserved g c =
    let f = g.T.AsWord.word in
    let x = c.x-item.result in
    let read : x ≡ get_or c.args.list.now c.loop-x.x-index x = search rules in
    rw (c.put-p.ensures, c.word.ensures, c.loop-x.invariant)
    (ap (λ y. put_of (put_all c.args.before (map f (take c.loop-x.x-index c.args.list.now))) (f y)) read
    ∙ put-more (map f) (λ x. f x ∷ []) (λ l x. map-append f l (x ∷ [])) _ c.args.list.now _ c.loop-x.x-index c.loop-x-test.true)

pub returns : goal.returns
returns g c = c.loop-x.invariant ∙ ap (λ l. put_all c.args.before (map g.T.AsWord.word l)) (take_all c.loop-x.x-index c.args.list.now c.loop-x-test.false)
