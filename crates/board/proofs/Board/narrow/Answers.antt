use Rattle.board.proofs.Answering.{stays_tells, ten_narrow}
use Rattle.board.proofs.Narrowing.{narrow_none, narrow_some}
use borrow.Author.Rules.{rules}
use Rattle.board.proofs.Board.narrow.Goals as goal

pub returns-then-self-eq0 : goal.returns-then-self-eq0
returns-then-self-eq0 c = search (stays_tells, ten_narrow, rules)

pub returns-then-slim-eq0 : goal.returns-then-slim-eq0
returns-then-slim-eq0 c = search (narrow_none, rules)

pub returns : goal.returns
returns c = search (narrow_some, rules)
