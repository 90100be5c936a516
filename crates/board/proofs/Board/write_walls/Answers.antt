use Rattle.board.proofs.Answering.{stays_tells, ten_walls, answer_walls}
use borrow.Author.Rules.{rules}
use Rattle.board.proofs.Board.write_walls.Goals as goal

pub returns-then-self-eq0 : goal.returns-then-self-eq0
returns-then-self-eq0 c = search (stays_tells, ten_walls, rules)

pub returns : goal.returns
returns c = search (answer_walls, rules)
