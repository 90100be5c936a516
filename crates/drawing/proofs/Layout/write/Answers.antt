use Rattle.drawing.proofs.Writing.{plan_short, plan_done}
use borrow.Author.Rules.{rules}
use Rattle.drawing.proofs.Layout.write.Goals as goal

pub returns-then-out-length : goal.returns-then-out-length
returns-then-out-length c = search (plan_short, rules)

pub returns : goal.returns
returns c =
    plan_done c.args.self.now _ _ c.many.ensures.0 _ _ _ _ c.put_head.ensures c.low_byte.ensures c.low_byte-2.ensures c.put_rects.ensures c.if-out-length.false
