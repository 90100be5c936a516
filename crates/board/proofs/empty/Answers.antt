use Rattle.board.proofs.Answering.{none_held}
use borrow.Author.Rules.{rules}
use Rattle.board.proofs.empty.Goals as goal

pub returns : goal.returns
returns c = search (none_held, rules)
