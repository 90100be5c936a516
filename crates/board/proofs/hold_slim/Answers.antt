use Rattle.board.proofs.Narrowing.{slim_held}
use borrow.Author.Rules.{rules}
use Rattle.board.proofs.hold_slim.Goals as goal

pub returns : goal.returns
returns c = search (slim_held, rules)
