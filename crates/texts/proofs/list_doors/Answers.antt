use Rattle.texts.proofs.Fitting.{few_rooms, doors_long, doors_refused, doors_drawn}
use borrow.Author.Rules.{rules}
use Rattle.texts.proofs.list_doors.Goals as goal

pub returns-then-input-gt8192 : goal.returns-then-input-gt8192
returns-then-input-gt8192 c = doors_long _ _ _ _ (search rules) (search rules) c.put_too_long.ensures

pub put_doors-requires : goal.put_doors-requires
put_doors-requires c = few_rooms _ _ c.plan_job.ensures _ c.in-Ok.is c.lent.result c.lent.ensures.plan

pub returns-in-Ok : goal.returns-in-Ok
returns-in-Ok c = doors_drawn _ _ _ _ (search rules) (search rules) _ c.plan_job.ensures _ c.in-Ok.is c.lent.result c.lent.ensures.plan c.put_doors.ensures

pub returns-in-Err : goal.returns-in-Err
returns-in-Err c = doors_refused _ _ _ _ (search rules) (search rules) _ c.plan_job.ensures _ _ c.number.ensures (search rules) c.in-Err.is c.put_refusal.ensures
