-- `sample` meets its contract, by its outcome. Assumes nothing.
use mathlib.Core.Path.{◌≡◌, sym, ap, ◌∙◌}
use Rattle.std.specs.Prelude.{Err}
use Rattle.std.proofs.lemmas.Result.{err_from_is_err_and}
use Rattle.keyframe.specs.Inner.{sample_outcome}
use Rattle.keyframe.proofs.Refusals.{sample-by, sample-some}
use Rattle.words.specs.Lent.{word_at, track_in}
use Rattle.words.specs.Tracks.{track_from}
use Rattle.track_words.specs.Reading.{track_of}
use Rattle.track_words.proofs.Passed.{passed-within}
use Rattle.capi.proofs.tracks.sample.Goals.{After-sample_outcome}
use Rattle.capi.proofs.tracks.sample.Goals as goal

outcome : (c : After-sample_outcome) → c.sample_outcome.result ≡ sample_outcome (word_at c.args.track.words.now 512)
outcome c = rw c.count.ensures at c.sample_outcome.ensures

pub returns-in_err-sample_outcome : goal.returns-in_err-sample_outcome
unfolding track_from track_in
returns-in_err-sample_outcome c = let t = c.args.track in
    let p = err_from_is_err_and c.from_residual.result c.from_residual.ensures.1 in
    p.1 ∙ ap Err p.2 ∙ sample-by (track_of t.words.now) (passed-within t.words.now t.fine) c.args.secs _ (sym c.in_err-sample_outcome.was ∙ outcome (goal.at.returns-in_err-sample_outcome c).After-sample_outcome)

pub value_at-requires : goal.value_at-requires
value_at-requires c = sample-some _ (sym c.in_ok-sample_outcome.was ∙ outcome (goal.at.value_at-requires c).After-sample_outcome)

pub returns : goal.returns
unfolding track_from track_in
returns c = let t = c.args.track in
    rw c.value_at.ensures (sample-by (track_of t.words.now) (passed-within t.words.now t.fine) c.args.secs _ (sym c.in_ok-sample_outcome.was ∙ outcome (goal.at.returns c).After-sample_outcome))
