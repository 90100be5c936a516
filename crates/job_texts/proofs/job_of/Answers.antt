use Rattle.job_texts.proofs.Answers.{page_put, too_long_short, long_job, right_put, wrong_job, wrong_short}
use borrow.Author.Rules.{rules}
use Rattle.job_texts.proofs.job_of.Goals as goal

pub returns-then-text-gt16384 : goal.returns-then-text-gt16384
returns-then-text-gt16384 c = page_put _ _ c.put_too_long.ensures (long_job c.args.text.now (search rules)) too_long_short (search rules)

pub returns-in-Ok : goal.returns-in-Ok
returns-in-Ok c = right_put c.args.text.now _ c.read_text.ensures _ c.in-Ok.is c.lent.result c.lent-in-Ok.result _ _ _ _ (search rules) c.lent.ensures.job c.lent-in-Ok.ensures.sizes
    (search rules) (c.write_job.ensures.within (search rules, search rules, search rules)) c.unwrap_or.ensures

pub returns-in-Err : goal.returns-in-Err
returns-in-Err c = page_put _ _ c.put_slip.ensures (wrong_job c.args.text.now _ c.read_text.ensures _ c.in-Err.is (search rules))
    (wrong_short _ _ c.read_text.ensures _ c.in-Err.is (search rules)) (search rules)
