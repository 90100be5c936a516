use Rattle.stars.proofs.Holding.{start_first, start_later}
use borrow.Author.Rules.{rules}
use Rattle.stars.proofs.held.start_of.Goals as goal

pub returns-then-i-eq0 : goal.returns-then-i-eq0
returns-then-i-eq0 c = search (start_first, rules)

pub returns : goal.returns
returns c = search (start_later, rules)
