use Rattle.floor.specs.Calls.{touches, lent}
use Rattle.floor.specs.Tracker.{touch_of_job}
use Rattle.tirunoiwa.proofs.Calling.{job_refused, job_left, then_told}
use borrow.Author.Rules.{rules}
use native.Mathlib.Omega.{arith}
use Rattle.tirunoiwa.proofs.touch.Goals as goal

pub returns-in_err-board : goal.returns-in_err-board
unfolding touch_of_job lent
returns-in_err-board c = job_refused _ c.plan_job.ensures c.in_err-board.was (touches _ _) (search rules)

pub returns : goal.returns
unfolding touch_of_job lent
returns c = then_told (job_left _ c.plan_job.ensures c.in_ok-board.was) (touches _ _) c.touches.ensures (omega arith)
