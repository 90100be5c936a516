use Rattle.texts.proofs.Answers.{long_text, plan_text_lem, refusal_text}
use borrow.Author.Rules.{rules}
use Rattle.texts.proofs.list.Goals as goal

pub returns-then-input-gt8192 : goal.returns-then-input-gt8192
returns-then-input-gt8192 c = rw (long_text c.args.input.now (search rules)) c.list_too_long.ensures

pub returns-in-Ok : goal.returns-in-Ok
returns-in-Ok c = rw (plan_text_lem _ (search rules) _ c.plan_job.ensures _ c.in-Ok.is _ c.lent.ensures.plan) c.list_plan.ensures

pub returns-in-Err : goal.returns-in-Err
returns-in-Err c = refusal_text _ (search rules) _ c.plan_job.ensures _ c.in-Err.is _ c.number.ensures _ _ _ c.list_refusal.ensures
