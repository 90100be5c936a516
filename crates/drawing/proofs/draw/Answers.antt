use Rattle.std.proofs.Common.{ap, not}
use Rattle.drawing.proofs.Judging.{undrawn, nine_drawn, all_drawn}
use borrow.Author.Rules.{rules}
use Rattle.drawing.proofs.draw.Goals as goal

pub returns-in_err-plan : goal.returns-in_err-plan
returns-in_err-plan c = search (undrawn, rules)

pub returns-then-not-drawable : goal.returns-then-not-drawable
returns-then-not-drawable c = nine_drawn _ _ c.in_ok-plan.ensures _ c.lent.ensures.plan _ c.drawable.ensures (ap not c.if-not-drawable.true)

pub returns : goal.returns
returns c = search (all_drawn, rules)
