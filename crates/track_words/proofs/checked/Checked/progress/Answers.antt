-- `progress` meets its contract, by what its callees ensure. Assumes nothing.
use mathlib.Core.Path.{◌∙◌}
use Rattle.keyframe.specs.Limits.{base_of, end_of}
use Rattle.keyframe.proofs.Ticks.{progress-clock}
use Rattle.words.specs.Lent.{track_in}
use Rattle.words.specs.Tracks.{track_from}
use Rattle.track_words.specs.Reading.{track_of}
use Rattle.track_words.proofs.checked.Checked.progress.Goals as goal

pub returns : goal.returns
unfolding track_from track_in
returns c = let t = track_of c.args.self.words.now in
    c.progress_at.ensures ∙ rw (c.duration.ensures, c.elapsed.ensures, c.complete.ensures, c.looping.ensures) (progress-clock t (end_of t.looping (base_of t)))
