use Rattle.fields.proofs.Laws.{value_none, value_whole, in_order_lem, within}
use borrow.Author.Rules.{rules}
use Rattle.fields.proofs.value_at.Goals as goal

pub slice_bounds-result-count : goal.slice_bounds-result-count
slice_bounds-result-count c = search (in_order_lem, rules)

pub slice_bounds-result-start : goal.slice_bounds-result-start
slice_bounds-result-start c = search (in_order_lem, rules)

pub slice_bounds-result-end-in-Some : goal.slice_bounds-result-end-in-Some
slice_bounds-result-end-in-Some c = search (within, rules)

pub returns-in-None : goal.returns-in-None
returns-in-None c = search (value_none, rules)

pub returns-in-Some : goal.returns-in-Some
returns-in-Some c = search (value_whole, rules)
