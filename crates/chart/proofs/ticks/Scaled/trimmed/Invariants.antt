-- `trimmed` ends: the measure is the places that are left.
use Rattle.chart.proofs.ticks.Scaled.trimmed.Given as goal

abbrev pub decreases-loop-it : goal.decreases-loop-it
decreases-loop-it l = l.it.places
