-- `is_rest` meets its contract, by what the library says of parts of a list and of their equality. Assumes nothing.
use Rattle.rows.proofs.Fronts.{tells}
use Rattle.rows.proofs.entries.is_rest.Goals as goal

pub returns-in-Some-Some : goal.returns-in-Some-Some
returns-in-Some-Some c =
    let r = c.in-Some-Some.ensures.lookup.0 in
    let f = c.in-Some-Some.ensures'.lookup.0 in
    tells c.args.words.now c.args.out.now c.args.from c.args.n _ _ r.2 r.3 f.2 f.3 _ c.eq.ensures
