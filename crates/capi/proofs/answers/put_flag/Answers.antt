-- `put_flag` meets its contract, by what its callees ensure. Assumes nothing.
use Rattle.capi.proofs.answers.put_flag.Goals as goal

pub returns : goal.returns
returns c = simp c.flag_word.ensures
