use Rattle.board.proofs.Answering.{stays_tells, ten_slices, answer_slices}
use borrow.Author.Rules.{rules}
use Rattle.board.proofs.Board.slices.Goals as goal

pub returns-then-self-eq0 : goal.returns-then-self-eq0
returns-then-self-eq0 c = search (stays_tells, ten_slices, rules)

pub returns : goal.returns
returns c = search (answer_slices, rules)
