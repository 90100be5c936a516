use native.Mathlib.Omega.{arith}
use Rattle.job_texts.proofs.Answers.{page_put, too_long_short, refusal_short, long_text, held_passes, passed_text, refused_text}
use borrow.Author.Rules.{rules}
use Rattle.job_texts.proofs.text_of.Goals as goal

pub returns-then-job-gt8192 : goal.returns-then-job-gt8192
returns-then-job-gt8192 c = page_put _ _ c.put_too_long.ensures (long_text c.args.job.now (search rules)) too_long_short (search rules)

pub put_job-requires : goal.put_job-requires
put_job-requires c = record { few = omega (arith, c.lent.ensures.same.0); passed = held_passes _ _ c.hold_job.ensures _ c.in-Ok.is c.lent.result c.lent-in-Ok.result c.lent.ensures.job c.lent-in-Ok.ensures.sizes }

pub returns-in-Ok : goal.returns-in-Ok
returns-in-Ok c = rw (passed_text _ _ c.hold_job.ensures _ c.in-Ok.is c.lent.result c.lent-in-Ok.result c.lent.ensures.job c.lent-in-Ok.ensures.sizes (search rules)) c.put_job.ensures

pub returns-in-Err : goal.returns-in-Err
returns-in-Err c = page_put _ _ c.put_refusal.ensures (rw c.number.ensures (refused_text _ _ c.hold_job.ensures (search rules) _ c.in-Err.is))
    (search (refusal_short, rules)) (search rules)
