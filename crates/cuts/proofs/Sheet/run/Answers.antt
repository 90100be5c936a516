use Rattle.cuts.proofs.Writing.{few_walls, ups_rising, levels_rising, register_run, plan_run}
use borrow.Author.Rules.{rules}
use Rattle.cuts.proofs.Sheet.run.Goals as goal

pub order_of-order-requires : goal.order_of-order-requires
order_of-order-requires c = (search rules, few_walls _ _ _ _ _ c.register_of-register.ensures _ _ _ c.from.ensures c.from-many.ensures c.min-ups.ensures)

pub run-requires : goal.run-requires
run-requires c = (
  (
    search rules,
    let f = few_walls _ _ _ _ _ c.register_of-register.ensures _ _ _ c.from.ensures c.from-many.ensures c.min-ups.ensures in search rules,
    ups_rising _ _ _ _ _ c.register_of-register.ensures _ _ _ c.from.ensures c.from-many.ensures c.min-ups.ensures,
    levels_rising _ _ _ _ _ c.register_of-register.ensures _ _ _ c.from.ensures c.from-many.ensures c.min-ups.ensures,
    c.order_of-order.ensures.0,
    c.order_of-order.ensures.1,
  ),
  (search rules, search rules, search rules, c.link_rooms.ensures),
  search rules,
)

pub returns : goal.returns
returns c = (
  register_run _ _ _ _ _ c.register_of-register.ensures _ _ _ c.from.ensures c.from-many.ensures c.min-ups.ensures _ _
      (plan_run _ _ _ _ _ _ _ _ _ _ c.from-last.ensures c.saturating_sub.ensures c.saturating_sub-2.ensures c.run.ensures),
  search rules,
)
