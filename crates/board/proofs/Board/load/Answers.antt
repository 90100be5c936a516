use Rattle.board.proofs.Answering.{stays_tells, load_held, load_refused}
use borrow.Author.Rules.{rules}
use Rattle.board.proofs.Board.load.Goals as goal

pub returns-in-Ok : goal.returns-in-Ok
returns-in-Ok c = search (load_held, rules)

pub returns-in-Err : goal.returns-in-Err
returns-in-Err c = search (stays_tells, load_refused, rules)
