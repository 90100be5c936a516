use Rattle.std.proofs.Common.{ap, not}
use Rattle.board.proofs.Answering.{stays_tells, ten_rectangle, thirteen_rectangle, answer_rectangle}
use borrow.Author.Rules.{rules}
use Rattle.board.proofs.Board.rectangle.Goals as goal

pub returns-then-self-eq0 : goal.returns-then-self-eq0
returns-then-self-eq0 c = search (stays_tells, ten_rectangle, rules)

pub returns-then-not-vertex : goal.returns-then-not-vertex
returns-then-not-vertex c = search (stays_tells, thirteen_rectangle, rules)

pub returns : goal.returns
returns c =
    answer_rectangle _ c.if-self-eq0.false _ _ c.vertex.ensures (ap not c.if-not-vertex.false) _ (rw (c.lent.ensures.same.0, c.lent.ensures.same.3) at c.rectangle.ensures)
