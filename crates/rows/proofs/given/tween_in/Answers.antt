-- `tween_in` meets its contract, by what its callees ensure. Assumes nothing.
use Rattle.words.specs.Lent.{tween_in}
use Rattle.rows.proofs.given.tween_in.Goals as goal

pub returns : goal.returns
unfolding tween_in
returns c = simp (c.word-3.ensures, c.word-2.ensures, c.word.ensures, c.float_at-7.ensures, c.float_at-6.ensures, c.loop_at.ensures, c.float_at-5.ensures, c.float_at-4.ensures, c.easing_at.ensures, c.float_at-3.ensures, c.float_at-2.ensures, c.float_at.ensures)
