use Rattle.elsewhere.proofs.Placing.{frame_ends, frame_levels}
use borrow.Author.Rules.{rules}
use Rattle.elsewhere.proofs.Drawn.frame_lies.Goals as goal

pub returns-then-ends_stand : goal.returns-then-ends_stand
returns-then-ends_stand c = search (frame_levels, rules)

pub returns-else-ends_stand : goal.returns-else-ends_stand
returns-else-ends_stand c = search (frame_ends, rules)
