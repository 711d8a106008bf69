-- `survey_on` meets its contract. The invariant: the survey has reached record i. Assumes nothing.
use Rattle.survey.proofs.Courses.{Reached}
use Rattle.survey.proofs.survey.survey_on.Given as goal

abbrev pub invariant-loop-i : goal.invariant-loop-i
invariant-loop-i l = Reached l.records l.initial.reached l.initial.counts l.reached l.counts l.i
