use Rattle.stars.proofs.Sized.{width_untold, width_told}
use borrow.Author.Rules.{rules}
use Rattle.stars.proofs.least.Least.width_of.Goals as goal

pub returns-then-self-i : goal.returns-then-self-i
returns-then-self-i c = search (width_untold, rules)

pub returns : goal.returns
returns c = search (width_told, rules)
