use Rattle.season.proofs.Counting.{counts_refused, frame_within, counts_drawn}
use Rattle.season.proofs.counts.counts_of.Goals as goal

pub returns-in-Err : goal.returns-in-Err
returns-in-Err c = counts_refused _ _ c.plan_job.ensures _ _ _ c.in-Err.is c.number.ensures c.figures_of.ensures

pub figures_of-requires-in-Ok : goal.figures_of-requires-in-Ok
figures_of-requires-in-Ok c = frame_within _ _ c.plan_job.ensures _ c.in-Ok.is c.lent-plan.result c.lent-plan.ensures.plan _ c.frame_cells.ensures

pub returns-in-Ok : goal.returns-in-Ok
returns-in-Ok c = counts_drawn _ _ c.plan_job.ensures _ c.in-Ok.is c.lent-plan.result c.lent-plan.ensures.plan _ c.frame_cells.ensures _ c.figures_of-in-Ok.ensures
