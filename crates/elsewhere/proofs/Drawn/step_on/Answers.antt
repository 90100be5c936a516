use Rattle.elsewhere.proofs.Asking.{step_same, step_corner}
use borrow.Author.Rules.{rules}
use Rattle.elsewhere.proofs.Drawn.step_on.Goals as goal

pub returns-then-k-kind_at : goal.returns-then-k-kind_at
returns-then-k-kind_at c = search (step_same, rules)

pub returns : goal.returns
returns c = search (step_corner, rules)
