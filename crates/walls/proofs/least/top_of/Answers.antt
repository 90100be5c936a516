use Rattle.walls.proofs.Sizing.{top_start, top_next, top_done}
use borrow.Author.Rules.{rules}
use Rattle.walls.proofs.least.top_of.Goals as goal

pub loop-i-init : goal.loop-i-init
loop-i-init c = (search (top_start, rules), search rules)

pub loop-i-preserved : goal.loop-i-preserved
loop-i-preserved c = (search (top_next, rules), search rules)

pub returns : goal.returns
returns c = search (top_done, rules)
