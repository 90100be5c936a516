use Rattle.elsewhere.proofs.Placing.{narrow, wide_enough}
use borrow.Author.Rules.{rules}
use Rattle.elsewhere.proofs.Drawn.is_large.Goals as goal

pub returns-then-from-wide : goal.returns-then-from-wide
returns-then-from-wide c = search (wide_enough, rules)

pub returns-else-from-wide : goal.returns-else-from-wide
returns-else-from-wide c = search (narrow, rules)
