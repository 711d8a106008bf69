-- `fits_record` meets its contract, by what its three callees ensure. Assumes nothing.
use Rattle.easing.specs.Apply.{fits_record_of}
use Rattle.easing.proofs.kinds.Easing.fits_record.Goals as goal

pub returns : goal.returns
unfolding fits_record_of
returns c = simp (c.is_supplied.ensures, c.within.ensures, c.params_of.ensures)
