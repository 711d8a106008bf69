-- `put_settings` meets its contract, by what its callees ensure. Assumes nothing.
use Rattle.rows.specs.Words.{put_all}
use Rattle.rows.proofs.handed.put_settings.Goals as goal

pub returns : goal.returns
unfolding put_all
returns c = simp (c.put-2.ensures, c.put.ensures, c.put_float-4.ensures, c.put_float-3.ensures, c.put_easing.ensures, c.put_float-front.ensures, c.put_float-2.ensures, c.put_float.ensures)
