use Rattle.stars.proofs.Holding.{part_false, part_next, part_done}
use borrow.Author.Rules.{rules}
use Rattle.stars.proofs.held.Held.part_answered.Goals as goal

pub returns-then-not-entry_answered : goal.returns-then-not-entry_answered
returns-then-not-entry_answered c = search (part_false, rules)

pub loop-k-preserved : goal.loop-k-preserved
loop-k-preserved c = search (part_next, rules)

pub returns : goal.returns
returns c = search (part_done, rules)
