use Rattle.stars.proofs.Tables.{opposite_in, opposite_past}
use borrow.Author.Rules.{rules}
use Rattle.stars.proofs.kinds.opposite_of.Goals as goal

pub returns-then-k-lt4 : goal.returns-then-k-lt4
returns-then-k-lt4 c = search (opposite_in, rules)

pub returns-else-k-lt4 : goal.returns-else-k-lt4
returns-else-k-lt4 c = search (opposite_past, rules)
