use Rattle.stars.proofs.Holding.{lists_here, lists_next, lists_done}
use borrow.Author.Rules.{rules}
use Rattle.stars.proofs.held.Held.lists_in.Goals as goal

pub returns-then-entry_lists : goal.returns-then-entry_lists
returns-then-entry_lists c = search (lists_here, rules)

pub loop-k-preserved : goal.loop-k-preserved
loop-k-preserved c = search (lists_next, rules)

pub returns : goal.returns
returns c = search (lists_done, rules)
