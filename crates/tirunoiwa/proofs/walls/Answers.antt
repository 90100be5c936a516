use Rattle.floor.specs.Calls.{writes_register, lent}
use Rattle.floor.specs.Tracker.{walls_of_job}
use Rattle.tirunoiwa.proofs.Calling.{job_refused, job_left, then_told}
use borrow.Author.Rules.{rules}
use native.Mathlib.Omega.{arith}
use Rattle.tirunoiwa.proofs.walls.Goals as goal

pub returns-in_err-planned : goal.returns-in_err-planned
unfolding walls_of_job lent
returns-in_err-planned c = job_refused _ c.plan_job.ensures c.in_err-planned.was (writes_register _) (search rules)

pub returns : goal.returns
unfolding walls_of_job lent
returns c = then_told (job_left _ c.plan_job.ensures c.in_ok-planned.was) (writes_register _) c.write_walls.ensures (omega arith)
