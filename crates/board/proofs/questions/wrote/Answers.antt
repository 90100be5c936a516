use Rattle.board.proofs.Answering.{reply_wrote, reply_refused}
use borrow.Author.Rules.{rules}
use Rattle.board.proofs.questions.wrote.Goals as goal

pub returns-in-Ok : goal.returns-in-Ok
returns-in-Ok c = search (reply_wrote, rules)

pub returns-in-Err : goal.returns-in-Err
returns-in-Err c = search (reply_refused, rules)
