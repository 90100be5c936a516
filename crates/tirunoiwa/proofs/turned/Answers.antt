use Rattle.floor.specs.Calls.{turns, writes_job, lent}
use Rattle.floor.specs.Tracker.{turned_of_job}
use Rattle.board.specs.Boards.{reply_of}
use Rattle.tirunoiwa.proofs.Calling.{two_refused, job_left, call_refused, then_left, then_told}
use mathlib.Core.Path.{ap}
use borrow.Author.Rules.{rules}
use native.Mathlib.Omega.{arith}
use Rattle.tirunoiwa.proofs.turned.Goals as goal

pub returns-in_err-held : goal.returns-in_err-held
unfolding turned_of_job lent
returns-in_err-held c = two_refused _ c.plan_job.ensures c.in_err-held.was (turns _ _) (writes_job _) (search rules)

pub returns-in_err-turned : goal.returns-in_err-turned
unfolding turned_of_job lent
returns-in_err-turned c =
    call_refused (job_left _ c.plan_job.ensures c.in_ok-held.was) (turns _ _) c.turn-turned.ensures c.in_err-turned.was (writes_job _) (search rules)

pub returns : goal.returns
unfolding turned_of_job lent
returns c =
    let l = then_left (job_left _ c.plan_job.ensures c.in_ok-held.was) (turns _ _) c.turn-turned.ensures _ (ap reply_of c.in_ok-turned.was) in
    then_told l (writes_job _) c.write_job.ensures (omega arith)
