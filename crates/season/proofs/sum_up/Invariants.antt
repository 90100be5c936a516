use Rattle.season.proofs.Telling.{Past}
use Rattle.season.proofs.sum_up.Given as goal

abbrev pub invariant-loop-at : goal.invariant-loop-at
invariant-loop-at l = Past l.jobs l.at l.left l.sums

abbrev pub decreases-loop-at : goal.decreases-loop-at
decreases-loop-at l = l.left
