use Rattle.board.proofs.Answering.{stays_tells, ten_job, answer_job}
use borrow.Author.Rules.{rules}
use Rattle.board.proofs.Board.write_job.Goals as goal

pub returns-then-self-eq0 : goal.returns-then-self-eq0
returns-then-self-eq0 c = search (stays_tells, ten_job, rules)

pub returns : goal.returns
returns c =
    answer_job _ c.if-self-eq0.false _ _ _ _ c.wrote-reply.ensures _ _ c.lent.ensures.job c.lent-2.ensures.sizes (c.write_job-written.ensures.within (search rules, search rules, search rules))
