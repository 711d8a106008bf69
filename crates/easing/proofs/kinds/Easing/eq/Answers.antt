-- `eq` meets its contract, by what its steps ensure. Assumes nothing.
use Rattle.easing.proofs.Answering.{eq-not-supplied, eq-parameter, eq-compared}
use Rattle.easing.proofs.kinds.Easing.eq.Goals as goal

pub returns-then-within : goal.returns-then-within
returns-then-within c = eq-compared _ _ _ _ c.is_supplied.ensures c.is_supplied-2.ensures c.if-is_supplied.true _ _ _ _ c.params_of-p.ensures c.params_of-q.ensures c.within.ensures c.within-then-is_supplied.ensures c.if-within.true _ _ _ c.kind_number.ensures c.kind_number-then-within.ensures c.equal.ensures

pub returns-then-is_supplied : goal.returns-then-is_supplied
returns-then-is_supplied c = eq-parameter _ _ _ _ c.is_supplied.ensures c.is_supplied-2.ensures c.if-is_supplied.true _ _ _ _ c.params_of-p.ensures c.params_of-q.ensures c.within.ensures c.within-then-is_supplied.ensures c.if-within.false

pub returns : goal.returns
returns c = eq-not-supplied _ _ _ _ c.is_supplied.ensures c.is_supplied-2.ensures c.if-is_supplied.false
