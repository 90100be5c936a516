use Rattle.std.proofs.Common.{ap, not}
use Rattle.board.proofs.Answering.{stays_tells, ten_touches, thirteen_touches, answer_touches}
use borrow.Author.Rules.{rules}
use Rattle.board.proofs.Board.touches.Goals as goal

pub returns-then-self-eq0 : goal.returns-then-self-eq0
returns-then-self-eq0 c = search (stays_tells, ten_touches, rules)

pub returns-then-not-two_vertices : goal.returns-then-not-two_vertices
returns-then-not-two_vertices c =
    stays_tells _ _ _ _ _ c.stays-then-not-two_vertices.ensures (thirteen_touches _ c.if-self-eq0.false _ _ _ c.two_vertices.ensures (ap not c.if-not-two_vertices.true))

pub returns : goal.returns
returns c =
    answer_touches _ c.if-self-eq0.false _ _ _ c.two_vertices.ensures (ap not c.if-not-two_vertices.false) _ (rw c.lent.ensures.plan at c.two_touch.ensures)
