use Rattle.texts.proofs.Answers.{long_cuts, cuts_text_lem, refusal_cuts}
use borrow.Author.Rules.{rules}
use Rattle.texts.proofs.list_cuts.Goals as goal

pub returns-then-input-gt8192 : goal.returns-then-input-gt8192
returns-then-input-gt8192 c = rw (long_cuts c.args.input.now (search rules)) c.list_too_long.ensures

pub returns-in-Ok : goal.returns-in-Ok
returns-in-Ok c = cuts_text_lem _ (search rules) _ c.plan_job.ensures _ c.in-Ok.is _ c.lent.ensures.plan _ _ _ (search rules) c.put_cuts.ensures

pub returns-in-Err : goal.returns-in-Err
returns-in-Err c = refusal_cuts _ (search rules) _ c.plan_job.ensures _ c.in-Err.is _ c.number.ensures _ _ _ c.list_refusal.ensures
