use Rattle.elsewhere.proofs.Printing.{prints_long, prints_refused, prints_says}
use borrow.Author.Rules.{rules}
use Rattle.elsewhere.proofs.text.list_check.Goals as goal

pub returns-then-input-gt16384 : goal.returns-then-input-gt16384
returns-then-input-gt16384 c = prints_long _ _ _ _ (search rules) (search rules) c.put_too_long.ensures

pub returns-in-Err : goal.returns-in-Err
returns-in-Err c = prints_refused _ _ _ _ (search rules) _ (search rules) c.judge_together.ensures _ _ c.number.ensures c.put_refusal.ensures (search rules) (search rules)

pub returns-in-Ok : goal.returns-in-Ok
returns-in-Ok c = prints_says _ _ _ _ (search rules) _ (search rules) c.judge_together.ensures _ c.put_answer.ensures (search rules)
