use Rattle.board.proofs.Answering.{stays_tells, drawn_not, drawn_so}
use borrow.Author.Rules.{rules}
use Rattle.board.proofs.hold_numbered.Goals as goal

pub returns-in-Ok : goal.returns-in-Ok
returns-in-Ok c = search (drawn_so, rules)

pub returns-in-Err : goal.returns-in-Err
returns-in-Err c = search (stays_tells, drawn_not, rules)
