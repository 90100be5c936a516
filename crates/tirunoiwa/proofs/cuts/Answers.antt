use Rattle.floor.specs.Calls.{writes_cuts, lent}
use Rattle.floor.specs.Tracker.{cuts_of_job}
use Rattle.tirunoiwa.proofs.Calling.{job_refused, job_left, then_told}
use borrow.Author.Rules.{rules}
use native.Mathlib.Omega.{arith}
use Rattle.tirunoiwa.proofs.cuts.Goals as goal

pub returns-in_err-board : goal.returns-in_err-board
unfolding cuts_of_job lent
returns-in_err-board c = job_refused _ c.plan_job.ensures c.in_err-board.was (writes_cuts _) (search rules)

pub returns : goal.returns
unfolding cuts_of_job lent
returns c = then_told (job_left _ c.plan_job.ensures c.in_ok-board.was) (writes_cuts _) c.write_cuts.ensures (omega arith)
