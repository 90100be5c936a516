use Rattle.board.proofs.Answering.{plan_unread, plan_undrawn, plan_drawn}
use borrow.Author.Rules.{rules}
use Rattle.board.proofs.plan_job.Goals as goal

pub returns-in_err-read : goal.returns-in_err-read
returns-in_err-read c = search (plan_unread, rules)

pub returns-in_err-plan : goal.returns-in_err-plan
returns-in_err-plan c = search (plan_undrawn, rules)

pub returns : goal.returns
returns c = plan_drawn _ _ c.read_job.ensures _ c.in_ok-read.was _ _ c.lent.ensures.job c.lent-2.ensures.sizes _ c.draw.ensures _ c.in_ok-plan.was _ c.counted.ensures
