use Rattle.board.proofs.Answering.{stays_tells, ten_cuts, answer_cuts}
use borrow.Author.Rules.{rules}
use Rattle.board.proofs.Board.write_cuts.Goals as goal

pub returns-then-self-eq0 : goal.returns-then-self-eq0
returns-then-self-eq0 c = search (stays_tells, ten_cuts, rules)

pub returns : goal.returns
returns c = search (answer_cuts, rules)
