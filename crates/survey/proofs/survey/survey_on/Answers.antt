-- `survey_on` meets its contract. The invariant: the survey has reached record i. Assumes nothing.
use mathlib.Core.Path.{refl}
use Rattle.reader.proofs.Heard.{heard-as}
use Rattle.survey.proofs.Courses.{begins, goes_on, stops, finishes}
use Rattle.survey.proofs.survey.survey_on.Goals as goal

pub loop-i-init : goal.loop-i-init
loop-i-init c = begins _ _ _

pub loop-i-preserved : goal.loop-i-preserved
loop-i-preserved c = rw (c.counted-counts.ensures, c.saturating_sub-made.ensures) (goes_on _ _ _ _ _ _ c.loop-i.invariant _ _ c.loop-i-test.true (heard-as _ _ _ _ _ _ c.record_at-bytes.ensures refl c.hear.ensures c.in-Ok.is))

pub returns-in-Err : goal.returns-in-Err
returns-in-Err c =
    let e = stops _ _ _ _ _ _ c.loop-i.invariant _ c.loop-i-test.true (heard-as _ _ _ _ _ _ c.record_at-bytes.ensures refl c.hear.ensures c.in-Err.is) in
    record { reached = rw e refl; counts = rw e refl; outcome = rw e refl }

pub returns : goal.returns
returns c =
    let e = finishes _ _ _ _ _ _ c.loop-i.invariant c.loop-i-test.false in
    record { reached = rw e refl; counts = rw e refl; outcome = rw e refl }
