use Rattle.stars.proofs.Round.{after_next, after_last}
use native.Mathlib.Omega.{arith}
use borrow.Author.Rules.{rules}
use Rattle.stars.proofs.held.place_after.Goals as goal

pub returns-then-next-end : goal.returns-then-next-end
returns-then-next-end c = search (after_next, rules)

pub returns-else-next-end : goal.returns-else-next-end
returns-else-next-end c = search (after_last, rules)

pub returns-else-k-end : goal.returns-else-k-end
returns-else-k-end c = after_last _ _ _ (omega arith)
