use Rattle.texts.proofs.Plans.{plan_put}
use borrow.Author.Rules.{rules}
use Rattle.texts.proofs.list_plan.Goals as goal

pub returns : goal.returns
returns c = plan_put _ _ _ _ _ _ _ _ _ _ _ c.put_sheet-sheet.ensures c.put_two-first.ensures c.put_rects.ensures (search rules)
