-- `put_tween` meets its contract, by what its callees ensure. Assumes nothing.
use Rattle.rows.specs.Words.{put_all}
use Rattle.rows.proofs.handed.put_tween.Goals as goal

pub returns : goal.returns
unfolding put_all
returns c = simp (c.put-3.ensures, c.put-2.ensures, c.put.ensures, c.put_float-2.ensures, c.put_float.ensures, c.put_settings.ensures, c.tween_words-w.ensures)
