use Rattle.board.proofs.Answering.{stays_tells, ten_plan, answer_plan}
use borrow.Author.Rules.{rules}
use Rattle.board.proofs.Board.write_plan.Goals as goal

pub returns-then-self-eq0 : goal.returns-then-self-eq0
returns-then-self-eq0 c = search (stays_tells, ten_plan, rules)

pub returns : goal.returns
returns c =
    answer_plan _ c.if-self-eq0.false _ _ _ _ c.wrote-reply.ensures _ c.lent.ensures.plan c.write-written.ensures
