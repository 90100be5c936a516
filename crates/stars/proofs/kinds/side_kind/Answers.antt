use Rattle.stars.proofs.Tables.{side_in, side_past}
use borrow.Author.Rules.{rules}
use Rattle.stars.proofs.kinds.side_kind.Goals as goal

pub returns-then-side-lt4 : goal.returns-then-side-lt4
returns-then-side-lt4 c = search (side_in, rules)

pub returns-else-side-lt4 : goal.returns-else-side-lt4
returns-else-side-lt4 c = search (side_past, rules)
