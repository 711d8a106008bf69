-- `active_time` meets its contract, by what its callees ensure. Assumes nothing.
use mathlib.Core.Path.{◌∙◌}
use Rattle.keyframe.proofs.Ticks.{active-clock}
use Rattle.words.specs.Lent.{track_in}
use Rattle.words.specs.Tracks.{track_from}
use Rattle.track_words.specs.Reading.{track_of}
use Rattle.track_words.proofs.checked.Checked.active_time.Goals as goal

pub returns : goal.returns
unfolding track_from track_in
returns c = c.active_at.ensures ∙ rw (c.duration.ensures, c.elapsed.ensures, c.complete.ensures, c.looping.ensures) (active-clock (track_of c.args.self.words.now))
